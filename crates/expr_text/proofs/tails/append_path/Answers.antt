use Rattle.std.proofs.Common.{◌≡◌, ◌∷◌, [], ◌++◌, ap, sym, ◌∙◌, subst, refl}
use Rattle.mk_value.proofs.Appending.{appends_marked, fell_short, short_front, short_mark, short_marked, short_next, writes_along, writes_then, writes_third}
use Rattle.expr_text.proofs.Printed.{path_pieces}
use Rattle.expr_text.proofs.tails.append_path.Goals as goal

pub returns : goal.returns
returns c =
    writes_along _ _ _ _ _ (path_pieces c.args.path.now _ _ (c.as_str.ensures.value ∙ c.name.ensures) c.steps.ensures) (writes_then _ _ _ _ _ _ c.in_ok-append_str.ensures c.append_steps.ensures)

use Rattle.std.proofs.Common.{◌≡◌, ◌∷◌, [], ◌++◌, ap, sym, ◌∙◌, subst, refl}
use Rattle.mk_value.proofs.Appending.{appends_marked, fell_short, short_front, short_mark, short_marked, short_next, writes_along, writes_then, writes_third}
use Rattle.expr_text.proofs.Printed.{name_alone}
use Rattle.expr_text.proofs.tails.append_name.Goals as goal

pub returns : goal.returns
returns c = writes_along _ _ _ _ _ (name_alone _ _ c.as_str.ensures.value) c.append_str.ensures

use Rattle.std.proofs.Common.{◌≡◌, ◌∷◌, [], ◌++◌, ap, sym, ◌∙◌, subst, refl}
use Rattle.mk_value.proofs.Appending.{appends_marked, fell_short, short_front, short_mark, short_marked, short_next, writes_along, writes_then, writes_third}
use Rattle.mk_value.specs.Literals.{spelled}
use Rattle.mk_value.specs.Tokens.{word}
use Rattle.expr_text.proofs.tails.end_renamed.Goals as goal

pub returns : goal.returns
returns c =
    writes_third _ _ _ _ _ _ _ _ _ (ap (λ n. 44 ∷ (n ++ (44 ∷ (c.args.new.now ++ (41 ∷ []))))) c.as_str.ensures.value) c.in_ok-append_str.ensures c.in_ok-append_str-2.ensures c.end_inner.ensures

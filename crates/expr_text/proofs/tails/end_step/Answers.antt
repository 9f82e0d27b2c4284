use Rattle.std.proofs.Common.{◌∷◌, [], ◌++◌, pos, ap, sym, refl}
use Rattle.std.specs.Fmt.{signed_decimal}
use Rattle.std.specs.Int.{w64}
use Rattle.std.proofs.lemmas.Int.{to_z-of_z}
use Rattle.mk_value.proofs.Appending.{fell_short, short_second, writes_along, writes_third}
use Rattle.expr_text.proofs.tails.end_step.Goals as goal

pub returns : goal.returns
returns c =
    writes_third _ _ _ _ _ _ _ _ _
    (ap (λ z. 44 ∷ (signed_decimal z ++ (41 ∷ []))) (to_z-of_z w64 c.args.step c.ranges.step))
    c.in_ok-append_str.ensures c.in_ok-append_number.ensures c.append_str-2.ensures

use Rattle.std.proofs.Common.{refl, ap, ◌∙◌}
use Rattle.expr_text.specs.Walk.{a_number, is_held, moved}
use Rattle.expr_text.proofs.Held.{held_number}
use Rattle.expr_text.proofs.Running.{end_fails, first_becomes, first_fails, no_number, none_first, some_first}
use Rattle.std.proofs.Common.{inr}
use Rattle.expr_text.proofs.reader.Reader.number.Goals as goal

pub returns-in_default-clause-fails : goal.returns-in_default-clause-fails
returns-in_default-clause-fails c = end_fails _ _ a_number (none_first _ c.in_default.ensures.value) (λ others. refl)

pub returns-in_default-number_of-clause-fails : goal.returns-in_default-number_of-clause-fails
returns-in_default-number_of-clause-fails c = first_fails _ _ _ a_number (some_first _ _ c.in-Some.ensures.value) (inr (no_number _ (λ n is. c.in_default-number_of.ensures.none refl n is)))

pub returns-clause-meets : goal.returns-clause-meets
returns-clause-meets c =
    let is = c.in-Some-number_of.ensures.some.0 in
    first_becomes _ _ _ a_number _ (some_first _ _ c.in-Some.ensures.value) (ap is_held is ∙ held_number _ c.in-Some-number_of.ensures.some.1) (λ follows. ap (λ t. moved a_number t follows) is)

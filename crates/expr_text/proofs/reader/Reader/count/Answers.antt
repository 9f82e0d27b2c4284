use Rattle.std.proofs.Common.{refl, ap, ◌∙◌}
use Rattle.expr_text.specs.Walk.{a_count, is_held, moved}
use Rattle.expr_text.proofs.Held.{held_count}
use Rattle.expr_text.proofs.Running.{end_fails, first_becomes, first_fails, no_count, none_first, some_first}
use Rattle.std.proofs.Common.{inr}
use Rattle.expr_text.proofs.reader.Reader.count.Goals as goal

pub returns-in_default-clause-fails : goal.returns-in_default-clause-fails
returns-in_default-clause-fails c = end_fails _ _ a_count (none_first _ c.in_default.ensures.value) (λ others. refl)

pub returns-in_default-count_of-clause-fails : goal.returns-in_default-count_of-clause-fails
returns-in_default-count_of-clause-fails c = first_fails _ _ _ a_count (some_first _ _ c.in-Some.ensures.value) (inr (no_count _ (λ n is. c.in_default-count_of.ensures.none refl n is)))

pub returns-clause-meets : goal.returns-clause-meets
returns-clause-meets c =
    let is = c.in-Some-count_of.ensures.some.0 in
    first_becomes _ _ _ a_count _ (some_first _ _ c.in-Some.ensures.value) (ap is_held is ∙ held_count _ c.in-Some-count_of.ensures.some.1) (λ follows. ap (λ t. moved a_count t follows) is)

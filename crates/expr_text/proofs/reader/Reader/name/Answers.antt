use Rattle.std.proofs.Common.{refl, ap, ◌∙◌}
use Rattle.expr_text.specs.Walk.{a_name, is_held, moved}
use Rattle.expr_text.proofs.Held.{held_word}
use Rattle.expr_text.proofs.Running.{end_fails, first_becomes, first_fails, no_name, none_first, some_first}
use Rattle.expr_text.proofs.reader.Reader.name.Goals as goal

pub returns-in_default-clause-fails : goal.returns-in_default-clause-fails
returns-in_default-clause-fails c = end_fails _ _ a_name (none_first _ c.in_default.ensures.value) (λ others. refl)

pub returns-in_default-name_of-clause-fails : goal.returns-in_default-name_of-clause-fails
returns-in_default-name_of-clause-fails c = first_fails _ _ _ a_name (some_first _ _ c.in-Some.ensures.value) (no_name _ (λ letters named is. c.in_default-name_of.ensures.none refl letters named is))

pub returns-clause-meets : goal.returns-clause-meets
returns-clause-meets c =
    let is = c.in-Some-name_of.ensures.some.0 in
    first_becomes _ _ _ a_name _ (some_first _ _ c.in-Some.ensures.value) (ap is_held is ∙ held_word _ c.in-Some-name_of.ensures.some.1) (λ follows. ap (λ t. moved a_name t follows) is)

use Rattle.std.proofs.Common.{refl, ap, ◌∙◌, inr}
use Rattle.expr_text.specs.Readers.{operator_of}
use Rattle.expr_text.specs.Walk.{an_operation, is_held}
use Rattle.expr_text.proofs.InLines.{kept_moved, no_kept}
use Rattle.expr_text.proofs.Running.{end_fails, first_becomes, first_fails, held_operator, none_first, some_first}
use Rattle.expr_text.proofs.reader.Reader.kept_up.Goals as goal

pub returns-in_default-clause-fails : goal.returns-in_default-clause-fails
returns-in_default-clause-fails c = end_fails _ _ an_operation (none_first _ c.in_default.ensures.value) (λ others. refl)

pub returns-in_default-kept_of-clause-fails : goal.returns-in_default-kept_of-clause-fails
returns-in_default-kept_of-clause-fails c = first_fails _ _ _ an_operation (some_first _ _ c.in-Some.ensures.value) (inr (no_kept _ (λ kept is. c.in_default-kept_of.ensures.none refl kept is)))

pub returns-clause-opens : goal.returns-clause-opens
returns-clause-opens c =
    let is = c.in-Some-kept_of.ensures.some in
    first_becomes _ _ _ an_operation _ (some_first _ _ c.in-Some.ensures.value) (ap is_held is ∙ held_operator (operator_of _)) (kept_moved _ _ is)

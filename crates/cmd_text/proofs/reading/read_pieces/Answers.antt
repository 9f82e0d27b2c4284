use Rattle.std.proofs.Common.{refl}
use Rattle.std.proofs.lemmas.Bool.{false≢true}
use Rattle.std.proofs.lemmas.Result.{err_from_is_err_and}
use Rattle.cmd_text.proofs.Answering.{failed_line, met_line, over_line, spells_not_over, unknown_line}
use Rattle.cmd_text.proofs.Words.{is_a_verb, is_bare}
use Rattle.cmd_text.proofs.reading.read_pieces.Goals as goal

pub returns-in_default-verb_of-clause-fails : goal.returns-in_default-verb_of-clause-fails
returns-in_default-verb_of-clause-fails c = unknown_line _ _ _ _ c.in-Some.ensures.cases.0 (λ verb known is. c.in_default-verb_of.ensures.none refl verb known is)

pub returns-in_default-verb_of-clause-in_place : goal.returns-in_default-verb_of-clause-in_place
returns-in_default-verb_of-clause-in_place c =
    λ command one spells. absurd (is_a_verb _ _ _ command c.in-Some.ensures.cases.0 (λ verb known is. c.in_default-verb_of.ensures.none refl verb known is) one spells)

pub returns-in_err-command-clause-fails : goal.returns-in_err-command-clause-fails
returns-in_err-command-clause-fails c =
    let p = err_from_is_err_and c.from_residual.result c.from_residual.ensures.1 in
    rw (p.1, p.2) (failed_line _ _ _ _ _ _ c.in-Some.ensures.cases.0 c.in-Some-verb_of.ensures.some.0 c.in-Some-verb_of.ensures.some.1 c.in_err-command.ensures.fails)

pub returns-in_err-command-clause-in_place : goal.returns-in_err-command-clause-in_place
returns-in_err-command-clause-in_place c =
    λ command one spells. absurd (false≢true (c.in_err-command.ensures.in_place (is_bare _ _ _ command _ c.in-Some.ensures.cases.0 c.in-Some-verb_of.ensures.some.1 one spells)))

pub returns-in-Ok-clause-met : goal.returns-in-Ok-clause-met
returns-in-Ok-clause-met c = met_line _ _ _ _ _ _ _ c.in-Some.ensures.cases.0 c.in-Some-verb_of.ensures.some.0 c.in-Some-verb_of.ensures.some.1 c.in_ok-command.ensures.meets c.in-Ok.ensures.spells

pub returns-in-Err-clause-fails : goal.returns-in-Err-clause-fails
returns-in-Err-clause-fails c = over_line _ _ _ _ _ _ _ _ c.in-Some.ensures.cases.0 c.in-Some-verb_of.ensures.some.0 c.in-Some-verb_of.ensures.some.1 c.in_ok-command.ensures.meets c.in-Err.ensures.fails

pub returns-in-Err-clause-in_place : goal.returns-in-Err-clause-in_place
returns-in-Err-clause-in_place c =
    λ command one spells. absurd (spells_not_over _ _ _ _ _ _ _ command _ c.in-Some.ensures.cases.0 c.in-Some-verb_of.ensures.some.0 c.in-Some-verb_of.ensures.some.1 c.in_ok-command.ensures.meets c.in-Err.ensures.fails spells)

use Rattle.std.proofs.lemmas.Bool.{false≢true}
use Rattle.std.proofs.Common.{None}
use Rattle.cmd_text.proofs.Answering.{failure_refused, flaw_refused, spells_lent}
use Rattle.cmd_text.proofs.Words.{cut_in_place, never_flawed}
use Rattle.cmd_text.proofs.reading.read_tokens.Goals as goal

pub returns-in_err-cutting-clause-in_place : goal.returns-in_err-cutting-clause-in_place
returns-in_err-cutting-clause-in_place c =
    λ command one reads. let cut = cut_in_place _ command one reads in
    absurd (false≢true (c.in_err-cutting.ensures.in_place cut.0 None cut.1.0 cut.1.1))

pub returns-in-Ok-clause-refused : goal.returns-in-Ok-clause-refused
returns-in-Ok-clause-refused c = flaw_refused _ _ _ _ _ c.in_ok-cutting.ensures.cuts c.as_slice.ensures c.in-Some.is c.in-Ok.ensures.met

pub returns-in-Ok-clause-in_place : goal.returns-in-Ok-clause-in_place
returns-in-Ok-clause-in_place c =
    λ command one reads. absurd (never_flawed _ command _ _ (rw c.in-Some.is at c.in_ok-cutting.ensures.cuts) reads)

pub returns-clause-refused : goal.returns-clause-refused
returns-clause-refused c = rw c.of_failure.ensures (failure_refused _ _ _ _ _ c.in_ok-cutting.ensures.cuts c.as_slice.ensures c.in-Err.ensures.fails)

pub returns-clause-in_place : goal.returns-clause-in_place
returns-clause-in_place c =
    λ command one reads. absurd (false≢true (c.in-Err.ensures.in_place command one (spells_lent _ command _ _ _ c.in_ok-cutting.ensures.cuts c.as_slice.ensures reads)))

use Rattle.std.proofs.Common.{inl, inr}
use Rattle.aside_run.proofs.Answered.{answers_over}
use Rattle.aside_run.proofs.laws.runs_over_are_answered.Goals as goal

pub returns : goal.returns
returns c = λ viewers words base faults faults_after old new ran well. answers_over c.lines_are_answered.ensures viewers words base faults faults_after old new well ran.job.mode ran.job.cap ran.ran

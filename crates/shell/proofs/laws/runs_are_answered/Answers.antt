use Rattle.shell.proofs.Completing.{answers_well}
use Rattle.shell.proofs.laws.runs_are_answered.Goals as goal

pub returns : goal.returns
returns c = λ viewers words old new ran well. answers_well c.lines_are_answered.ensures viewers ran.job.task ran.job.mode ran.job.cap old new well.disk ran.ran

-- What the lines of a run over a base got.
use Rattle.std.proofs.Common.{ℕ, List, inl, inr}
use Rattle.command_line.specs.declared.job.Task.TheVariants.{Serve}
use Rattle.host_io.specs.Outside.{Outside}
use Rattle.session.specs.Unfaulted.{AnswersUnfaulted}
use Rattle.storage.specs.declared.mode.Mode.{Mode}
use Rattle.viewers.specs.Meanings.{Meaning}
use Rattle.shell.proofs.Completing.{answers_well}
use Rattle.shell.specs.declared.status.Status.TheVariants.{Done}
use Rattle.aside_run.specs.Complete.{AnswersWellOver, GoesWellOver}
use Rattle.aside_run.specs.RanOver.{RanOver}

pub answers_over : AnswersUnfaulted → (viewers : List Meaning) (words : List (List ℕ)) (base : List ℕ) (faults faults_after : ℕ) (old new : Outside) → GoesWellOver words base faults faults_after old new
    → (mode : Mode) (cap : ℕ) (ran : RanOver viewers mode cap Done base old new) → AnswersWellOver viewers mode cap base old new ran
answers_over law viewers words base faults faults_after old new well mode cap (inl none) = none
answers_over law viewers words base faults faults_after old new well mode cap (inr (number, is, inl none)) = none
answers_over law viewers words base faults faults_after old new well mode cap (inr (number, is, inr serves)) =
    answers_well law viewers Serve mode cap serves.begin serves.end (λ rose. elim (serves.ends.disk_faults well.counted rose) [ inl under ↦ well.disk under | inr worn ↦ well.unworn worn ]) serves.ran

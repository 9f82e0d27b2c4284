-- A run over a base in which nothing goes wrong.
use Rattle.std.specs.Prelude.{◌≡◌, ◌⊎◌, ℕ, ◌<◌, ◌≤◌, ◌^◌, List, [], length}
use Rattle.command_line.specs.Words.{AsksOver}
use Rattle.command_line.specs.declared.job.Job.{Job}
use Rattle.command_line.specs.declared.job.Task.TheVariants.{Serve}
use Rattle.mk_value.specs.Buffer.{Buffer}
use Rattle.host_io.specs.Calls.{Rose}
use Rattle.host_io.specs.Outside.{Outside}
use Rattle.aside_disk.specs.Logical.{Logical}
use Rattle.aside_disk.specs.Standing.{IsWornOut}
use Rattle.lines.specs.Lines.{max_budget}
use Rattle.recovery.specs.Commits.{Commit}
use Rattle.recovery.specs.Standing.{StandsFor}
use Rattle.std.proofs.Common.{inl, inr}
use Rattle.storage.specs.declared.mode.Mode.{Mode}
use Rattle.shell.specs.Complete.{AnswersWell}
use Rattle.shell.specs.declared.status.Status.TheVariants.{Done}
use Rattle.viewers.specs.Meanings.{Meaning}
use Rattle.aside_run.specs.Bases.{IsBase}
use Rattle.aside_run.specs.RanOver.{RanOver, RanOverFor}

-- the file is an aside file of this base, and the file for which the two stand is a store
pub record IsGoodAside (base : List ℕ) (number : ℕ) (image : List ℕ) : Type 0 where
  pub file : List ℕ
  pub logical : Logical base number image file
  pub commit : Commit
  pub stands : StandsFor file commit

-- A run over a base in which nothing can go wrong but memory: the words name a base, the base stands for a commit, the aside file is empty or stands
-- for a store over it, no call fails, the aside file is not worn out when the run ends, and no more bytes come than may be taken.
pub record GoesWellOver (words : List (List ℕ)) (base : List ℕ) (base_faults base_faults_after : ℕ) (old new : Outside) : Type 0 where
  pub job : Job
  pub name : Buffer
  pub right : AsksOver words job name
  pub number : ℕ
  pub is : IsBase base number
  pub opens : (old.now.disk.seen ≡ []) ⊎ IsGoodAside base number old.now.disk.seen
  pub base_calls : ¬ Rose base_faults base_faults_after
  pub disk : ¬ Rose old.disk_faults new.disk_faults
  pub counted : old.disk_faults < 2 ^ 64
  pub unworn : ¬ IsWornOut base new.now.disk.seen
  pub takes : ¬ Rose old.take_faults new.take_faults
  pub says : ¬ Rose old.say_faults new.say_faults
  pub short : length old.input ≤ max_budget

-- Each line that such a run answered got what a session that is not shut owes it.
abbrev pub AnswersWellOver : (viewers : List Meaning) (mode : Mode) (cap : ℕ) (base : List ℕ) (old new : Outside) → RanOver viewers mode cap Done base old new → Type 0
AnswersWellOver viewers mode cap base old new (inl none) = ⊥
AnswersWellOver viewers mode cap base old new (inr (number, is, inl none)) = ⊥
AnswersWellOver viewers mode cap base old new (inr (number, is, inr serves)) = AnswersWell viewers Serve mode cap serves.begin serves.end serves.ran

abbrev pub RunsOverAreAnswered : Type 0
RunsOverAreAnswered =
    (viewers : List Meaning) (words : List (List ℕ)) (base : List ℕ) (base_faults base_faults_after : ℕ) (old new : Outside) (ran : RanOverFor viewers words Done base old new)
    → GoesWellOver words base base_faults base_faults_after old new → AnswersWellOver viewers ran.job.mode ran.job.cap base old new ran.ran

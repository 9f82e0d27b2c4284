-- A run in which nothing goes wrong: what each line of this very run got.
use Rattle.std.specs.Prelude.{ℕ, List, [], ◌∷◌, ◌++◌}
use Rattle.std.proofs.Common.{inl, inr}
use Rattle.command_line.specs.declared.job.Task.{Task}
use Rattle.command_line.specs.declared.job.Task.TheVariants.{Serve, Check, Sample, Save, Load}
use Rattle.host_io.specs.Outside.{Outside}
use Rattle.lines.specs.Machine.{State}
use Rattle.lines.specs.Served.{state_of}
use Rattle.session.specs.Unfaulted.{AreAnswered}
use Rattle.session.specs.World.{World}
use Rattle.storage.specs.declared.mode.Mode.{Mode}
use Rattle.viewers.specs.Meanings.{Meaning}
use Rattle.shell.specs.Ran.{GoesWell, IsSampleLine, Ran, RanAs}
use Rattle.shell.specs.declared.status.Status.TheVariants.{Done}

-- the lines of a sample that were answered, all of them or those up to the first that was refused, each got what it is due
abbrev pub AreSampleAnswered : (viewers : List Meaning) (number edits : ℕ) (old last : State World) (line : List ℕ) → IsSampleLine viewers number edits old last line → Type 0
AreSampleAnswered viewers number edits old last line (inl all) = AreAnswered viewers old all.0.turns
AreSampleAnswered viewers number edits old last line (inr one) = AreAnswered viewers old (one.before ++ one.final ∷ [])

-- Each line that this run answered, from the world that it opened, got what a session that is not shut owes it: no reply says that the disk
-- failed or that the session is shut, and a commit is acknowledged, unless it is refused as read only, as past the last number or the cap, or
-- for want of memory. A run that looks at a file, says its stream or makes one of a stream answers none.
abbrev pub AnswersWell : (viewers : List Meaning) (task : Task) (mode : Mode) (cap : ℕ) (old new : Outside) → RanAs viewers task mode cap Done old new → Type 0
AnswersWell viewers Serve mode cap old new ran = AreAnswered viewers (state_of ran.world ran.opened) ran.ran.serves.turns
AnswersWell viewers Check mode cap old new ran = Unit {0}
AnswersWell viewers Save mode cap old new ran = Unit {0}
AnswersWell viewers Load mode cap old new ran = Unit {0}
AnswersWell viewers (Sample number edits) mode cap old new ran =
    AreSampleAnswered viewers number edits (state_of ran.world ran.opened) (state_of ran.sampled.last ran.sampled.answered) ran.sampled.line ran.sampled.outcome

-- a run that is done, and in which nothing went wrong, answered its lines so
abbrev pub RunsAreAnswered : Type 0
RunsAreAnswered =
    (viewers : List Meaning) (words : List (List ℕ)) (old new : Outside) (ran : Ran viewers words Done old new) → GoesWell words old new → AnswersWell viewers ran.job.task ran.job.mode ran.job.cap old new ran.ran

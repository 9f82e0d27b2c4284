-- What comes of lines while no call of the disk fails: each gets what it is due, or memory was wanting.
use Rattle.std.specs.Prelude.{◌≡◌, ◌⊎◌, ℕ, List, [], ◌∷◌, false}
use Rattle.cmd_text.specs.Lines.{Reads}
use Rattle.cmd_text.specs.declared.command.Command.{Command}
use Rattle.host_io.specs.Calls.{Rose}
use Rattle.lines.specs.Lines.{IsTooLong}
use Rattle.lines.specs.Machine.{Run, State, Turn}
use Rattle.storage.specs.Stored.{is_shut}
use Rattle.viewers.specs.Meanings.{Meaning}
use Rattle.session.specs.Carried.{Acknowledges, BringsBack, FindsDamage, Gives, IsFull, Reopens, WantsMemory}
use Rattle.session.specs.Commands.{Outcome, gives, commits, reopens, reverts, outcome_in}
use Rattle.session.specs.Step.{LacksMemory, RefusesLine, machine}
use Rattle.session.specs.World.{World}

-- A commit is acknowledged, or it would end past the cap; a file is opened anew; the commit before is brought back, or it is damaged.
abbrev pub ComesWell : Outcome → State World → List ℕ → State World → Type 0
ComesWell (gives said left) old reply new = Gives (Unit {0}) said left old reply new
ComesWell (commits note) old reply new = Acknowledges (Unit {0}) note old reply new ⊎ IsFull (Unit {0}) note old reply new
ComesWell reopens old reply new = Reopens (Unit {0}) old reply new
ComesWell reverts old reply new = BringsBack (Unit {0}) old reply new ⊎ FindsDamage (Unit {0}) old reply new

-- the line reads as a command, and gets what a session that is not shut owes it
pub record CarriesWell (viewers : List Meaning) (old : State World) (line reply : List ℕ) (new : State World) : Type 0 where
  pub command : Command
  pub reads : Reads line command
  pub comes : ComesWell (outcome_in viewers old.world command) old reply new ⊎ WantsMemory (Unit {0}) command old reply new

abbrev pub StepsWell : List Meaning → State World → List ℕ → List ℕ → State World → Type 0
StepsWell viewers old line reply new = CarriesWell viewers old line reply new ⊎ (RefusesLine (Unit {0}) old line reply new ⊎ LacksMemory (Unit {0}) old line reply new)

-- A turn of a session that was not shut: it is not shut after it, and the line got what it is due, unless it was too long.
pub record IsAnswered (viewers : List Meaning) (old : State World) (turn : Turn World) : Type 0 where
  pub unshut : is_shut turn.after.world.store ≡ false
  pub well : IsTooLong turn.line ⊎ StepsWell viewers old turn.line turn.reply turn.after

abbrev pub AreAnswered : List Meaning → State World → List (Turn World) → Type 0
AreAnswered viewers old [] = Unit {0}
AreAnswered viewers old (turn ∷ turns) = IsAnswered viewers old turn × AreAnswered viewers turn.after turns

-- From a session that is not shut, where the disk's faults do not rise, each line of a run is answered so.
abbrev pub AnswersUnfaulted : Type 0
AnswersUnfaulted =
    (viewers : List Meaning) (old last : State World) (lines : List (List ℕ)) (turns : List (Turn World)) → is_shut old.world.store ≡ false → Run (machine viewers) old lines turns last
    → (¬ Rose old.disk_faults last.disk_faults) → AreAnswered viewers old turns

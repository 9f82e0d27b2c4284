-- What a reply tells of the state that its line leaves.
use Rattle.std.specs.Prelude.{◌≡◌, ℕ, List, false}
use Rattle.cmd_text.specs.Lines.{Reads}
use Rattle.cmd_text.specs.declared.command.Command.{Command}
use Rattle.lines.specs.Machine.{Answers, State}
use Rattle.storage.specs.Stored.{is_shut}
use Rattle.viewers.specs.Meanings.{Meaning}
use Rattle.session.specs.Commands.{off_disk, reach_of}
use Rattle.session.specs.Step.{machine}
use Rattle.session.specs.World.{World}

-- the line reads as no command that comes to the disk: as no commit, and as nothing that opens or reads the file
abbrev pub StaysOffDisk : List ℕ → Type 0
StaysOffDisk line = (command : Command) → Reads line command → reach_of command ≡ off_disk

-- Two states that the line may leave with one reply. The session holds the same in both, and where it is not shut the disk is the same. A
-- line that does not come to the disk leaves one state. What a line that does may leave in two ways is how often the disk failed; and where
-- the session is shut, which bytes a commit wrote before it failed, and whether what was pending was settled before the file could not be
-- opened anew.
pub record AreAlike (line : List ℕ) (one other : State World) : Type 0 where
  pub world : one.world ≡ other.world
  pub disk : is_shut one.world.store ≡ false → one.disk ≡ other.disk
  pub same : StaysOffDisk line → one ≡ other

-- From one state, one line and one reply leave states that are alike.
abbrev pub DeterminesState : Type 0
DeterminesState =
    (viewers : List Meaning) (old one other : State World) (line reply : List ℕ)
    → Answers (machine viewers) old line reply one → Answers (machine viewers) old line reply other → AreAlike line one other

-- What a crash may leave while a command is carried out.
use Rattle.std.specs.Prelude.{◌≡◌, ◌⊎◌, ℕ, ◌≤◌, false, List, None}
use Rattle.cmd_text.specs.Lines.{Reads}
use Rattle.cmd_text.specs.declared.command.Command.{Command}
use Rattle.cmd_text.specs.declared.command.Command.TheVariants as commands
use Rattle.commit_plan.specs.Plans.{Planned}
use Rattle.commit_writes.specs.Phases.{commit_ranges}
use Rattle.host_io.specs.Disk.{IsImage}
use Rattle.host_io.specs.Outside.{Moment}
use Rattle.host_io.specs.Ranges.{ChangesOnly}
use Rattle.lines.specs.Machine.{State}
use Rattle.recovery.specs.Refusals.{MayStand}
use Rattle.storage.specs.Stored.{is_shut}
use Rattle.session.specs.Commands.{commit_due}
use Rattle.session.specs.Disk.{IsAllowed, IsNext}
use Rattle.session.specs.World.{World}

-- The commit that is made where the command asks for one and none of its refusals is due.
pub record IsMade (state : State World) (command : Command) (planned : Planned) : Type 0 where
  pub note : List ℕ
  pub asked : command ≡ commands.Commit note
  pub unshut : is_shut state.world.store ≡ false
  pub due : commit_due state.world.store ≡ None
  pub next : IsNext state.world.store note planned
  pub within : planned.next.end ≤ state.world.store.cap

-- While a commit is made a crash may leave the commit that is kept, or the next one with that as the one before it.
pub record IsCommitting (state : State World) (command : Command) (image : List ℕ) : Type 0 where
  pub planned : Planned
  pub made : IsMade state command planned
  pub stands : MayStand state.world.store.kept planned.next image

-- The file while a commit is made: bytes have changed only where the commit writes.
pub record IsFileOf (state : State World) (command : Command) (file : List ℕ) : Type 0 where
  pub planned : Planned
  pub made : IsMade state command planned
  pub changes : ChangesOnly (commit_ranges state.world.store.slot planned.writes) state.disk.seen file

-- A moment while a command is carried out: nothing is said, no byte of the file has changed but where a commit writes that is being
-- made, and what a crash may leave is allowed before the command, or is what the command may leave.
pub record IsWithinCommand (state : State World) (command : Command) (said : List ℕ) (at : Moment) : Type 0 where
  pub silent : at.said ≡ said
  pub file : (at.disk.seen ≡ state.disk.seen) ⊎ IsFileOf state command at.disk.seen
  pub images : (image : List ℕ) → IsImage at.disk image → IsAllowed state image ⊎ IsCommitting state command image

-- the line reads as a commit that is being made, and a crash may leave this image
pub record IsUnderWay (state : State World) (line image : List ℕ) : Type 0 where
  pub command : Command
  pub reads : Reads line command
  pub commits : IsCommitting state command image

-- the file while the line that reads as a commit is answered
pub record IsFileOfLine (state : State World) (line file : List ℕ) : Type 0 where
  pub command : Command
  pub reads : Reads line command
  pub file_of : IsFileOf state command file

-- A moment while a line is answered: nothing is said, no byte of the file has changed but where a commit writes that is being made, and
-- what a crash may leave is allowed before the line, or is what it may leave.
pub record IsWithinLine (state : State World) (line said : List ℕ) (at : Moment) : Type 0 where
  pub silent : at.said ≡ said
  pub file : (at.disk.seen ≡ state.disk.seen) ⊎ IsFileOfLine state line at.disk.seen
  pub images : (image : List ℕ) → IsImage at.disk image → IsAllowed state image ⊎ IsUnderWay state line image

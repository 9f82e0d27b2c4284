-- One line's effect: the reply that it may have in a state, and the state that it leaves.
use Rattle.std.specs.Prelude.{◌≡◌, ◌⊎◌, ℕ, List, true}
use Rattle.cmd_text.specs.Lines.{IsRefusedAs, Reads}
use Rattle.cmd_text.specs.Replies.{reply_bytes}
use Rattle.cmd_text.specs.declared.command.Command.{Command}
use Rattle.cmd_text.specs.declared.error.CmdError.{CmdError}
use Rattle.cmd_text.specs.declared.refusal.Refusal.TheVariants.{Memory}
use Rattle.cmd_text.specs.declared.reply.Reply.TheVariants.{Refused}
use Rattle.lines.specs.Machine.{Machine, State}
use Rattle.viewers.specs.Meanings.{Meaning}
use Rattle.session.specs.Carried.{Carried, Gives}
use Rattle.session.specs.Commands.{takes_memory}
use Rattle.session.specs.Disk.{IsAllowed, IsInOrder}
use Rattle.session.specs.Lines.{is_quit}
use Rattle.session.specs.Moments.{IsUnderWay}
use Rattle.session.specs.Refusals.{refusal_of_reading}
use Rattle.session.specs.World.{World}

-- the line reads as a command, and this came of it where these viewers may be asked
pub record CarriesOut (known : Type 0) (viewers : List Meaning) (old : State World) (line reply : List ℕ) (new : State World) : Type 0 where
  pub command : Command
  pub reads : Reads line command
  pub carried : Carried known viewers command old reply new

-- the line is no command, and is refused at its first offence
pub record RefusesLine (known : Type 0) (old : State World) (line reply : List ℕ) (new : State World) : Type 0 where
  pub error : CmdError
  pub offends : IsRefusedAs line error
  pub refuses : Gives known (reply_bytes (Refused (refusal_of_reading error))) old.world old reply new

-- Memory was wanting to read the line. A line of a command that takes none is read without any.
pub record LacksMemory (known : Type 0) (old : State World) (line reply : List ℕ) (new : State World) : Type 0 where
  pub takes : (command : Command) → Reads line command → takes_memory command ≡ true
  pub refuses : Gives known (reply_bytes (Refused Memory)) old.world old reply new

-- What the line may do. What is said of the disk's bytes holds where they are known.
abbrev pub Step : Type 0 → List Meaning → State World → List ℕ → List ℕ → State World → Type 0
Step known viewers old line reply new = CarriesOut known viewers old line reply new ⊎ (RefusesLine known old line reply new ⊎ LacksMemory known old line reply new)

-- The session over a disk whose bytes are known, where these viewers may be asked, as a machine.
abbrev pub machine : List Meaning → Machine World
machine viewers = record {
  answers = Step (Unit {0}) viewers;
  ends = is_quit;
  allowed = IsAllowed;
  under_way = IsUnderWay;
  ready = IsInOrder;
}

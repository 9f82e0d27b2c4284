-- How the outside goes on: nothing is said or taken, each moment is one of the command or the line, and the next line may come.
use Rattle.std.specs.Prelude.{◌≡◌, ℕ, List}
use Rattle.cmd_text.specs.declared.command.Command.{Command}
use Rattle.host_io.specs.Outside.{Goes, Outside}
use Rattle.lines.specs.Machine.{State}
use Rattle.session.specs.Disk.{IsSteady}
use Rattle.session.specs.Moments.{IsWithinCommand, IsWithinLine}
use Rattle.session.specs.World.{World}

-- after a command
pub record GoesOn (command : Command) (old new : State World) (from to : Outside) : Type 0 where
  pub moments : Goes (IsWithinCommand old command from.now.said) from to
  pub said : to.now.said ≡ from.now.said
  pub input : to.input ≡ from.input
  pub ready : IsSteady new

-- after a line
pub record GoesOnLine (line : List ℕ) (old new : State World) (from to : Outside) : Type 0 where
  pub moments : Goes (IsWithinLine old line from.now.said) from to
  pub said : to.now.said ≡ from.now.said
  pub input : to.input ≡ from.input
  pub ready : IsSteady new

-- How an outside goes on over a whole run.
use Rattle.std.specs.Prelude.{◌≤◌, length}
use Rattle.host_io.specs.Outside.{Outside, Goes}

-- The one outside went on to the other: its moments are the first of the other's, no moment that came had fewer bytes said, and no count of
-- faults fell.
pub record Advances (old new : Outside) : Type 0 where
  pub moments : Goes (λ at. length old.now.said ≤ length at.said) old new
  pub disk_faults : old.disk_faults ≤ new.disk_faults
  pub take_faults : old.take_faults ≤ new.take_faults
  pub say_faults : old.say_faults ≤ new.say_faults

-- What is done without a byte said.
use Rattle.std.specs.Prelude.{◌≡◌, ◌≤◌}
use Rattle.host_io.specs.Outside.{Goes, Outside}

-- Nothing was said or taken. At each moment that came the bytes said were those before, and no call failed but one of the disk.
pub record GoesInSilence (old new : Outside) : Type 0 where
  pub said : new.now.said ≡ old.now.said
  pub input : new.input ≡ old.input
  pub moments : Goes (λ at. at.said ≡ old.now.said) old new
  pub disk_faults : old.disk_faults ≤ new.disk_faults
  pub take_faults : new.take_faults ≡ old.take_faults
  pub say_faults : new.say_faults ≡ old.say_faults

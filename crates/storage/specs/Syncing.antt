-- What opening a file anew does to the disk.
use Rattle.std.specs.Prelude.{◌≡◌, Bool, true, false, ◌∷◌, ◌⊎◌}
use Rattle.host_io.specs.Disk.{settled}
use Rattle.host_io.specs.Outside.{Outside}
use Rattle.host_io.specs.Calls.{Looks}

-- what was pending is settled by one sync, and no byte was written
pub record Settles (old new : Outside) : Type 0 where
  pub disk : new.now.disk ≡ settled old.now.disk.seen
  pub said : new.now.said ≡ old.now.said
  pub past : new.past ≡ old.now ∷ old.past
  pub input : new.input ≡ old.input

-- nothing is done to the disk but at most one sync, and that only where it may
abbrev pub SyncsAtMost : Bool → Outside → Outside → Type 0
SyncsAtMost true old new = Looks old new ⊎ Settles old new
SyncsAtMost false old new = Looks old new

-- A run over base and aside file is one over the file that the two stand for. What ties that one to the host.
use Rattle.std.specs.Prelude.{◌≡◌, ◌⊎◌, ℕ, ◌-◌, ◌<◌, ◌^◌, List, []}
use Rattle.host_io.specs.Calls.{Rose}
use Rattle.host_io.specs.Disk.{settled}
use Rattle.host_io.specs.Outside.{Outside}
use Rattle.aside_disk.specs.Logical.{Logical}
use Rattle.aside_disk.specs.Standing.{IsWornOut}
use Rattle.aside_disk.specs.Tie.{Tie}

-- The run over this file begins: nothing is pending on its disk and no moment came before. For the rest it is the host as it was.
pub record BeginsOver (file : List ℕ) (old begin : Outside) : Type 0 where
  pub disk : begin.now.disk ≡ settled file
  pub past : begin.past ≡ []
  pub said : begin.now.said ≡ old.now.said
  pub input : begin.input ≡ old.input
  pub take_faults : begin.take_faults ≡ old.take_faults
  pub say_faults : begin.say_faults ≡ old.say_faults

-- The run over that file ended as the host's did: the same was said and taken, the same calls of input and output failed, and each image that
-- a crash may leave of the aside file, now or at any moment since this number, stands for one that it may leave of that file. Its disk failed
-- only where the host's did, whose count was this one before, or the aside file is worn out. The host counts in 64 bits.
pub record EndsOver (base : List ℕ) (number since faults : ℕ) (new begin end : Outside) : Type 0 where
  pub tie : Tie (Logical base number) since 0 new end
  pub input : end.input ≡ new.input
  pub take_faults : end.take_faults ≡ new.take_faults
  pub say_faults : end.say_faults ≡ new.say_faults
  pub disk_faults : faults < 2 ^ 64 → Rose begin.disk_faults end.disk_faults → Rose faults new.disk_faults ⊎ IsWornOut base new.now.disk.seen

-- What may stand of the file for which base and aside file stand, by how many bytes had been said when a crash came.
use Rattle.std.specs.Prelude.{◌≡◌, ◌⊎◌, ℕ, ◌-◌, ◌<◌, ◌≤◌, List}
use Rattle.std.proofs.Common.{inl, inr}
use Rattle.host_io.specs.Outside.{Left, Outside}
use Rattle.aside_disk.specs.Logical.{Logical}
use Rattle.lines.specs.Crash.{MayStand}
use Rattle.lines.specs.Machine.{State, Turn}
use Rattle.lines.specs.Served.{state_of}
use Rattle.session.specs.Disk.{IsAllowed}
use Rattle.session.specs.Step.{machine}
use Rattle.session.specs.World.{World}
use Rattle.storage.specs.declared.mode.Mode.{Mode}
use Rattle.viewers.specs.Meanings.{Meaning}
use Rattle.shell.specs.Ran.{RanFrom, RanServing, greeted_length}
use Rattle.shell.specs.declared.status.Status.{Status}
use Rattle.shell.specs.declared.status.Status.TheVariants.{Done, Usage, Refused, TakeFault, SayFault, Memory, TooMuch, DiskFault}

-- until the greeting stands whole, what the opening state allows
abbrev pub MayStandGreeting : State World → ℕ → ℕ → List ℕ → Type 0
MayStandGreeting state whole n file = n < whole → IsAllowed state file

-- and from then on what may stand over the turns of the run
pub record MayStandServing (viewers : List Meaning) (state : State World) (turns : List (Turn World)) (whole n : ℕ) (file : List ℕ) : Type 0 where
  pub greeting : MayStandGreeting state whole n file
  pub serving : whole ≤ n → MayStand (machine viewers) state turns (n - whole) file

-- what may stand over a run that began with this world
abbrev pub MayStandFrom : (viewers : List Meaning) (world : World) (status : Status) (old opened new : Outside) → RanFrom viewers world status old opened new → ℕ → List ℕ → Type 0
MayStandFrom viewers world Done old opened new ran n file = MayStandServing viewers (state_of world opened) ran.serves.turns (greeted_length world old) n file
MayStandFrom viewers world TakeFault old opened new ran n file = MayStandServing viewers (state_of world opened) ran.serves.turns (greeted_length world old) n file
MayStandFrom viewers world TooMuch old opened new ran n file = MayStandServing viewers (state_of world opened) ran.serves.turns (greeted_length world old) n file
MayStandFrom viewers world SayFault old opened new (inl part) n file = MayStandGreeting (state_of world opened) (greeted_length world old) n file
MayStandFrom viewers world SayFault old opened new (inr ran) n file = MayStandServing viewers (state_of world opened) ran.serves.turns (greeted_length world old) n file
MayStandFrom viewers world Usage old opened new ran n file = ⊥
MayStandFrom viewers world Refused old opened new ran n file = ⊥
MayStandFrom viewers world Memory old opened new ran n file = ⊥
MayStandFrom viewers world DiskFault old opened new ran n file = ⊥

-- The same by the status of a run. Where no line was served the file is the one that it began with.
abbrev pub MayStandOver : (viewers : List Meaning) (mode : Mode) (cap : ℕ) (status : Status) (first : List ℕ) (begin end : Outside) → RanServing viewers mode cap status begin end → ℕ → List ℕ → Type 0
MayStandOver viewers mode cap Done first begin end ran n file = MayStandFrom viewers ran.world Done begin ran.opened end ran.ran n file
MayStandOver viewers mode cap TakeFault first begin end ran n file = MayStandFrom viewers ran.world TakeFault begin ran.opened end ran.ran n file
MayStandOver viewers mode cap TooMuch first begin end ran n file = MayStandFrom viewers ran.world TooMuch begin ran.opened end ran.ran n file
MayStandOver viewers mode cap SayFault first begin end ran n file = MayStandFrom viewers ran.world SayFault begin ran.opened end ran.ran n file
MayStandOver viewers mode cap Usage first begin end ran n file = ⊥
MayStandOver viewers mode cap Refused first begin end ran n file = file ≡ first
MayStandOver viewers mode cap Memory first begin end ran n file = file ≡ first
MayStandOver viewers mode cap DiskFault first begin end ran n file = file ≡ first

-- the image of an aside file stands for a file with P, and by one law for no other file
pub record StandsForOne (base : List ℕ) (number : ℕ) (P : List ℕ → Type 0) (image : List ℕ) : Type 0 where
  pub file : List ℕ
  pub logical : Logical base number image file
  pub may : P file

-- each image that a crash may have left of the aside file since then stands for a file that may stand
abbrev pub IsSafeOver : List ℕ → ℕ → (ℕ → List ℕ → Type 0) → ℕ → Outside → Type 0
IsSafeOver base number may since new = (image : List ℕ) (n : ℕ) → Left since new image n → StandsForOne base number (may n) image

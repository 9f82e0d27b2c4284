-- What the parts of a run over a base do.
use Rattle.std.specs.Prelude.{◌≡◌, ◌⊎◌, ℕ, ◌<◌, ◌≤◌, ◌^◌, List}
use Rattle.host_io.specs.Outside.{Outside, moment}
use Rattle.aside_disk.specs.Standing.{IsWornOut}
use Rattle.aside_disk.specs.declared.error.AsideError.{AsideError}
use Rattle.aside_disk.specs.declared.error.AsideError.TheVariants.{At, OtherBase, Failed}
use Rattle.storage.specs.declared.mode.Mode.{Mode}
use Rattle.viewers.specs.Meanings.{Meaning}
use Rattle.shell.specs.Ran.{RanServing}
use Rattle.shell.specs.Said.{IsSilent, SaysOnly, fault_line}
use Rattle.shell.specs.declared.fault.FileFault.TheVariants as fault
use Rattle.shell.specs.declared.status.Status.{Status}
use Rattle.shell.specs.declared.status.Status.TheVariants.{Refused, DiskFault}
use Rattle.aside_run.specs.Bases.{IsBadBase}
use Rattle.aside_run.specs.RanOver.{ReadsNoBase}
use Rattle.aside_run.specs.Seen.{BeginsOver, EndsOver}
use Rattle.aside_run.specs.declared.base.BaseError.{BaseError}
use Rattle.aside_run.specs.declared.base.BaseError.TheVariants as base_error

-- The log of an aside file was open, and stood for this file with its base. Lines were served over the two. The count of disk faults before was at
-- most the host's when the log was open.
pub record ServesLog (viewers : List Meaning) (mode : Mode) (cap : ℕ) (status : Status) (base : List ℕ) (number : ℕ) (file : List ℕ) (opened new : Outside) : Type 0 where
  pub begin : Outside
  pub begins : BeginsOver file opened begin
  pub end : Outside
  pub ends : (faults : ℕ) → faults ≤ opened.disk_faults → EndsOver base number (moment opened) faults new begin end
  pub ran : RanServing viewers mode cap status begin end

-- The aside file is worn out, where contracts know the bytes. The host counts in 64 bits.
abbrev pub WearsOut : Type 0 → ℕ → List ℕ → List ℕ → Type 0
WearsOut tells faults base image = faults < 2 ^ 64 → tells → IsWornOut base image

-- how a run ends whose aside file was not opened
abbrev pub EndsWith : AsideError → Status → Outside → Outside → Type 0
EndsWith (At place) status old new = (status ≡ Refused) × SaysOnly (fault_line (fault.NoAside place)) old new
EndsWith (OtherBase kept given) status old new = (status ≡ Refused) × SaysOnly (fault_line (fault.OtherBase kept given)) old new
EndsWith Failed status old new = (status ≡ DiskFault) × (new ≡ old)

-- the cause for which a base was not read, as far as its bytes are known
abbrev pub IsBaseCause : List ℕ → BaseError → Type 0
IsBaseCause base base_error.Bad = IsBadBase base
IsBaseCause base base_error.Failed = Unit {0}
IsBaseCause base base_error.Memory = Unit {0}

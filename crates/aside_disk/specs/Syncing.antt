-- What a sync does to a log.
use Rattle.std.specs.Prelude.{ℕ, List, length, Result, Ok, Err}
use Rattle.host_io.specs.Outside.{Outside}
use Rattle.aside_disk.specs.declared.error.AsideError.{AsideError}
use Rattle.aside_disk.specs.declared.error.AsideError.TheVariants.{At, OtherBase}
use Rattle.aside_disk.specs.declared.error.AsideError.TheVariants as aside
use Rattle.aside_disk.specs.declared.error.SyncError.{SyncError}
use Rattle.aside_disk.specs.declared.error.SyncError.TheVariants.{Failed, Refused}
use Rattle.aside_disk.specs.declared.log.Log.{Log}
use Rattle.aside_disk.specs.Shown.{Seen, rested}
use Rattle.aside_disk.specs.Told.{IsSpent, IsTold}

-- marks that are refused are no fault of the disk
abbrev pub sync_error_of : AsideError → SyncError
sync_error_of (At place) = Refused
sync_error_of (OtherBase kept given) = Refused
sync_error_of aside.Failed = Failed

-- the upper disk takes its step where the sync succeeded
abbrev pub after_sync : {T E : Type 0} → Seen → Result T E → Seen
after_sync seen (Ok x) = rested seen
after_sync seen (Err e) = seen

-- no commit can follow over these bytes
abbrev pub IsSpentAt : Log → List ℕ → Outside → Type 0
IsSpentAt log base lower = IsSpent log.marks.chosen.number (length base) (length lower.now.disk.seen)

-- What is known goes on, and a log that is spent stays so.
pub record KeepsTold (base : List ℕ) (number : ℕ) (was is : Log) (lower_since upper_since : ℕ) (old new : Outside) (seen after : Seen) : Type 0 where
  pub told : IsTold base number is lower_since upper_since new after
  pub spent : IsSpentAt was base old → IsSpentAt is base new

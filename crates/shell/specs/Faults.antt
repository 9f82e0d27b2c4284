-- Why a file is not served.
use Rattle.std.specs.Prelude.{◌≡◌, ◌≢◌, ℕ, List, [], Result, Ok, Err}
use Rattle.recovery.specs.Refusals.{IsDamagedAt, IsNoStore}
use Rattle.session.specs.declared.starting.StartError.{StartError}
use Rattle.session.specs.declared.starting.StartError.TheVariants as start_error
use Rattle.storage.specs.declared.mode.Mode.{Mode}
use Rattle.storage.specs.declared.mode.Mode.TheVariants.{Read}
use Rattle.streaming.specs.declared.error.LoadFault.{LoadFault}
use Rattle.streaming.specs.declared.error.LoadFault.TheVariants as load_fault
use Rattle.shell.specs.declared.fault.FileFault.{FileFault}
use Rattle.shell.specs.declared.fault.FileFault.TheVariants.{Empty, NotEmpty, NotAStore, Damaged, BadStream, Full, BadBase, NoAside, OtherBase}
use Rattle.shell.specs.declared.status.Status.{Status}
use Rattle.shell.specs.declared.status.Status.TheVariants as status

-- by how its store was not opened; a disk that failed and want of memory are no fault of the file
abbrev pub fault_of : StartError → Result FileFault Status
fault_of start_error.Empty = Ok Empty
fault_of start_error.NotAStore = Ok NotAStore
fault_of (start_error.Damaged place) = Ok (Damaged place)
fault_of start_error.Failed = Err status.DiskFault
fault_of start_error.Memory = Err status.Memory

-- by why no store was made of an input
abbrev pub fault_of_load : LoadFault → Result FileFault Status
fault_of_load (load_fault.BadStream place) = Ok (BadStream place)
fault_of_load (load_fault.Full end cap) = Ok (Full end cap)
fault_of_load load_fault.TooMuch = Err status.TooMuch
fault_of_load load_fault.TakeFailed = Err status.TakeFault
fault_of_load load_fault.DiskFailed = Err status.DiskFault
fault_of_load load_fault.Memory = Err status.Memory

-- The bytes of the file are why it is not opened: it is empty and only read, or it is not empty and stands for no commit. A file that is
-- not empty is refused where a store is to be made in it, and that, and a stream of which none is made, is said there alone; so is what is
-- said of a base and its aside file, where there is one.
abbrev pub IsFault : Mode → List ℕ → FileFault → Type 0
IsFault mode file Empty = (mode ≡ Read) × (file ≡ [])
IsFault mode file NotEmpty = ⊥
IsFault mode file (BadStream place) = ⊥
IsFault mode file (Full end cap) = ⊥
IsFault mode file BadBase = ⊥
IsFault mode file (NoAside place) = ⊥
IsFault mode file (OtherBase kept given) = ⊥
IsFault mode file NotAStore = (file ≢ []) × IsNoStore file
IsFault mode file (Damaged place) = (file ≢ []) × IsDamagedAt file place

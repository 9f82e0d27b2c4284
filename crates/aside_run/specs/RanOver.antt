-- What each status of a run over a base says of the bytes taken and said, and of what a crash would have left of the aside file.
use Rattle.std.specs.Prelude.{◌≡◌, ◌≢◌, ◌⊎◌, ℕ, List, []}
use Rattle.command_line.specs.Words.{AsksOver}
use Rattle.command_line.specs.declared.job.Job.{Job}
use Rattle.mk_value.specs.Buffer.{Buffer}
use Rattle.host_io.specs.Outside.{Outside}
use Rattle.aside_disk.specs.Logical.{record_of}
use Rattle.aside_disk.specs.Opening.{opened_at}
use Rattle.storage.specs.declared.mode.Mode.{Mode}
use Rattle.viewers.specs.Meanings.{Meaning}
use Rattle.shell.specs.Ran.{Opens, RanServing}
use Rattle.shell.specs.Said.{IsSilent, SaysOnly, fault_line}
use Rattle.shell.specs.declared.fault.FileFault.{FileFault}
use Rattle.shell.specs.declared.fault.FileFault.TheVariants.{BadBase}
use Rattle.shell.specs.declared.status.Status.{Status}
use Rattle.shell.specs.declared.status.Status.TheVariants.{Done, Usage, Refused, TakeFault, SayFault, Memory, TooMuch, DiskFault}
use Rattle.aside_run.specs.Bases.{IsAsideFault, IsBadBase, IsBase, StandsFirst}
use Rattle.aside_run.specs.Safe.{IsSafeOver, MayStandOver}
use Rattle.aside_run.specs.Seen.{BeginsOver, EndsOver}

-- The base was not read: it is none, and the line that is said names that; or a call failed or memory was wanting, and nothing was done.
abbrev pub ReadsNoBase : Status → List ℕ → Outside → Outside → Type 0
ReadsNoBase Refused base old new = IsBadBase base × SaysOnly (fault_line BadBase) old new
ReadsNoBase Memory base old new = IsSilent old new
ReadsNoBase DiskFault base old new = IsSilent old new
ReadsNoBase _ base old new = ⊥

-- the file that is not empty is no aside file of the base, and the line that is said names why
pub record RefusesAside (base : List ℕ) (number : ℕ) (old new : Outside) : Type 0 where
  pub some : old.now.disk.seen ≢ []
  pub fault : FileFault
  pub cause : IsAsideFault old.now.disk.seen (record_of base number) fault
  pub says : SaysOnly (fault_line fault) old new

-- The aside file was not opened: it is refused, or a call failed in silence.
abbrev pub OpensNoAside : Status → List ℕ → ℕ → Outside → Outside → Type 0
OpensNoAside Refused base number old new = RefusesAside base number old new
OpensNoAside DiskFault base number old new = Opens old new
OpensNoAside _ base number old new = ⊥

-- The aside file was opened, or made where it was empty. The run is one over the file for which base and aside file stand, and each image that a
-- crash may have left of the aside file since it was open stands for a file that this run allows then.
pub record ServesOver (viewers : List Meaning) (mode : Mode) (cap : ℕ) (status : Status) (base : List ℕ) (number : ℕ) (old new : Outside) : Type 0 where
  pub file : List ℕ
  pub stands : StandsFirst base number old.now.disk.seen file
  pub begin : Outside
  pub begins : BeginsOver file old begin
  pub end : Outside
  pub ends : EndsOver base number (opened_at old) old.disk_faults new begin end
  pub ran : RanServing viewers mode cap status begin end
  pub crash : IsSafeOver base number (MayStandOver viewers mode cap status file begin end ran) (opened_at old) new

-- what came of the aside file of a base
abbrev pub RanOverBase : List Meaning → Mode → ℕ → Status → List ℕ → ℕ → Outside → Outside → Type 0
RanOverBase viewers mode cap status base number old new =
    OpensNoAside status base number old new ⊎ ServesOver viewers mode cap status base number old new

-- a run over a base with these bytes, which it does not read or which stands for the commit of some number
abbrev pub RanOver : List Meaning → Mode → ℕ → Status → List ℕ → Outside → Outside → Type 0
RanOver viewers mode cap status base old new =
    ReadsNoBase status base old new ⊎ ((number : ℕ) × IsBase base number × RanOverBase viewers mode cap status base number old new)

-- the words name a base, and this is what came of it
pub record RanOverFor (viewers : List Meaning) (words : List (List ℕ)) (status : Status) (base : List ℕ) (old new : Outside) : Type 0 where
  pub job : Job
  pub name : Buffer
  pub asks : AsksOver words job name
  pub ran : RanOver viewers job.mode job.cap status base old new

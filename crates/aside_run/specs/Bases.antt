-- A base, and why a file is none; an aside file of it, and why a file is none.
use Rattle.std.specs.Prelude.{◌≡◌, ◌≢◌, ℕ, List, [], ◌∷◌, Result, Ok, Err}
use Rattle.aside_disk.specs.declared.error.BaseRecord.{BaseRecord}
use Rattle.aside_disk.specs.Logical.{IsAsideOf, Logical}
use Rattle.aside_disk.specs.Refusals.{IsNoAside}
use Rattle.recovery.specs.Commits.{Commit}
use Rattle.recovery.specs.Standing.{StandsFor}
use Rattle.recovery.specs.declared.error.OpenError.{OpenError}
use Rattle.recovery.specs.declared.error.OpenError.TheVariants as opening
use Rattle.block_io.specs.declared.error.BlockError.{BlockError}
use Rattle.block_io.specs.declared.error.BlockError.TheVariants as block_error
use Rattle.shell.specs.declared.fault.FileFault.{FileFault}
use Rattle.shell.specs.declared.fault.FileFault.TheVariants.{Empty, NotEmpty, NotAStore, Damaged, BadStream, Full, BadBase, NoAside, OtherBase}
use Rattle.aside_run.specs.declared.base.Base.{Base}
use Rattle.aside_run.specs.declared.base.BaseError.{BaseError}
use Rattle.aside_run.specs.declared.base.BaseError.TheVariants.{Bad, Failed, Memory}

-- the file stands for a commit, which has this number
pub record IsBase (base : List ℕ) (number : ℕ) : Type 0 where
  pub commit : Commit
  pub stands : StandsFor base commit
  pub number_is : number ≡ commit.number

-- The file stands for no commit. An empty one never does.
abbrev pub IsBadBase : List ℕ → Type 0
IsBadBase base = (c : Commit) → ¬ StandsFor base c

-- all of the file was read, which is a base
pub record IsReadOf (base : List ℕ) (read : Base) : Type 0 where
  pub bytes : read.bytes.bytes ≡ base
  pub is : IsBase base read.number

-- Why a file that is not empty is no aside file of the base with this record.
abbrev pub IsAsideFault : List ℕ → BaseRecord → FileFault → Type 0
IsAsideFault file given (NoAside place) = IsNoAside file place
IsAsideFault file given (OtherBase kept other) = IsAsideOf kept file × (other ≡ given) × (kept ≢ given)
IsAsideFault file given _ = ⊥

-- What base and aside file stand for together when a run begins: the base itself, where the aside file is empty.
abbrev pub StandsFirst : List ℕ → ℕ → List ℕ → List ℕ → Type 0
StandsFirst base number [] file = file ≡ base
StandsFirst base number (byte ∷ bytes) file = Logical base number (byte ∷ bytes) file

-- a file that stands for nothing is a bad base
abbrev pub cause_of_opening : OpenError → BaseError
cause_of_opening opening.NotAStore = Bad
cause_of_opening (opening.Damaged place) = Bad
cause_of_opening opening.Failed = Failed
cause_of_opening opening.Memory = Memory

abbrev pub cause_of_block : BlockError → BaseError
cause_of_block block_error.Failed = Failed
cause_of_block block_error.Memory = Memory

-- Why a directory is not read.
use Rattle.std.specs.Prelude.{ℕ, List}
use Rattle.block_io.specs.declared.error.BlockError.{BlockError}
use Rattle.block_io.specs.declared.error.BlockError.TheVariants as block_error
use Rattle.commit_marks.specs.declared.mark.Mark.{Mark}
use Rattle.dir_codec.specs.declared.error.DirError.{DirError}
use Rattle.dir_codec.specs.declared.error.DirError.TheVariants as dir_error
use Rattle.recovery.specs.declared.directory.DirectoryError.{DirectoryError}
use Rattle.recovery.specs.declared.directory.DirectoryError.TheVariants.{At, Failed, Memory}
use Rattle.recovery.specs.Refusals.{HasFlaw}

abbrev pub cause_of_reading : BlockError → DirectoryError
cause_of_reading block_error.Failed = Failed
cause_of_reading block_error.Memory = Memory

abbrev pub cause_of_dir : DirError → DirectoryError
cause_of_dir (dir_error.At offset) = At offset
cause_of_dir dir_error.Memory = Memory

-- an offset that is named is that of the first flaw
abbrev pub NamesFlaw : List ℕ → Mark → DirectoryError → Type 0
NamesFlaw image m (At offset) = HasFlaw image m offset
NamesFlaw image m _ = Unit {0}

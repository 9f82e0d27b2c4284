-- Why a column is not read, by why its block or its values are not.
use Rattle.bit_pack.specs.declared.error.PackError.{PackError}
use Rattle.bit_pack.specs.declared.error.PackError.TheVariants as pack_error
use Rattle.block_io.specs.declared.error.BlockError.{BlockError}
use Rattle.block_io.specs.declared.error.BlockError.TheVariants as block_error
use Rattle.bytes_col.specs.declared.blocks.BlocksError.{BlocksError}
use Rattle.bytes_col.specs.declared.blocks.BlocksError.TheVariants as blocks_error
use Rattle.recovery.specs.declared.error.ReadError.{ReadError}
use Rattle.recovery.specs.declared.error.ReadError.TheVariants.{Unreadable, Failed, Memory}

abbrev pub cause_of_block : BlockError → ReadError
cause_of_block block_error.Failed = Failed
cause_of_block block_error.Memory = Memory

abbrev pub cause_of_packing : PackError → ReadError
cause_of_packing pack_error.Memory = Memory
cause_of_packing _ = Unreadable

abbrev pub cause_of_column : BlocksError → ReadError
cause_of_column blocks_error.Mismatch = Unreadable
cause_of_column blocks_error.Memory = Memory

-- The bytes of a block, and how they fill its extent.
use Rattle.std.specs.Prelude.{ℕ, ◌-◌, ◌<◌, List, [], ◌++◌, length, replicate, slice_index_or}
use Rattle.bit_pack.specs.Packed.{packed}
use Rattle.bytes_col.specs.Strings.{short_bytes}
use Rattle.free_space.specs.Extents.{extent_len}
use Rattle.block_io.specs.declared.part.Part.{Part}
use Rattle.block_io.specs.declared.part.Part.TheVariants.{Ints, Short, Memo, Raw}

-- the bytes of the block
abbrev pub part_bytes : Part → List ℕ
part_bytes (Ints column) = packed column.now.values
part_bytes (Short column) = short_bytes column.now.values
part_bytes (Memo column row) = slice_index_or column.now.values row []
part_bytes (Raw bytes) = bytes.now

-- a value that is to be a block is one of its column
abbrev pub IsPart : Part → Type 0
IsPart (Memo column row) = row < length column.now.values
IsPart _ = Unit {0}

-- The bytes of a block as they are written: with zeros behind them, up to the end of its extent.
abbrev pub rounded : List ℕ → List ℕ
rounded bytes = bytes ++ replicate (extent_len (length bytes) - length bytes) 0

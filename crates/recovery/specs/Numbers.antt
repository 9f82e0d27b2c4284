-- The numbers that a block has.
use Rattle.std.specs.Prelude.{◌≡◌, ℕ, ◌≤◌, ◌⊎◌, ℤ, List, length}
use Rattle.mk_value.specs.declared.span.Span.{Span}
use Rattle.mk_value.specs.Heading.{Domain}
use Rattle.bit_pack.specs.declared.widths.Width.{Width}
use Rattle.bit_pack.specs.Width.{HoldsAll, bit_count}
use Rattle.bit_pack.specs.Packed.{Packed}
use Rattle.host_io.specs.Ranges.{bytes_in}
use Rattle.commit_writes.specs.Blocks.{span_range}
use Rattle.dir_codec.specs.Dir.{Entry}
use Rattle.dir_codec.specs.Columns.{PlainEntry}

-- so many numbers of a width
pub record AreHeld (w : Width) (rows : ℕ) (values : List ℤ) : Type 0 where
  pub count : length values ≡ rows
  pub held : HoldsAll w values

-- the block has these numbers, one for each row, packed at this width
pub record AreNumbersAt (image : List ℕ) (w : Width) (block : Span) (rows : ℕ) (values : List ℤ) : Type 0 where
  pub count : length values ≡ rows
  pub packed : Packed w values (bytes_in image (span_range block))

-- so many numbers, packed at this width in some bytes as many as the block has
pub record ArePackedIn (w : Width) (block : Span) (rows : ℕ) (values : List ℤ) : Type 0 where
  pub count : length values ≡ rows
  pub bytes : List ℕ
  pub long : block.len ≡ length bytes
  pub packed : Packed w values bytes

-- a directory has this width and this block of a column of so many numbers, which take at most 32 bits where they are integers
pub record IsNumberEntry (rows : ℕ) (w : Width) (block : Span) (e : PlainEntry) : Type 0 where
  pub domain : ((e.domain ≡ Domain.integer) × (bit_count w ≤ 32)) ⊎ (e.domain ≡ Domain.long)
  pub rows_are : e.rows ≡ rows
  pub entry : e.entry ≡ Entry.numbers w block

-- Blocks, as bytes and the spans where they stand.
use Rattle.std.specs.Prelude.{◌≡◌, ℕ, ◌-◌, ◌^◌, ◌<◌, ◌≤◌, ◌⊎◌, List, [], ◌∷◌, ◌++◌, length, map, max, replicate, All}
use Rattle.mk_value.specs.declared.span.Span.{Span}
use Rattle.host_io.specs.Disk.{Range}
use Rattle.host_io.specs.Calls.{put_bytes}
use Rattle.host_io.specs.Ranges.{bytes_in}
use Rattle.free_space.specs.Extents.{AreApart, extent_end, extent_len}
use Rattle.free_space.specs.Sites.{IsSite, first_place, no_span}

-- bytes, and the span where they stand
pub record Block : Type 0 where
  pub span : Span
  pub bytes : List ℕ

-- a block of no bytes, which has no place
abbrev pub no_block : Block
no_block = record { span = no_span; bytes = [] }

abbrev pub spans_of : List Block → List Span
spans_of blocks = map (λ b. b.span) blocks

-- the places of a block's bytes, and those of its extent
abbrev pub span_range : Span → Range
span_range span = record { start = span.place; count = span.len }

abbrev pub extent_range : Span → Range
extent_range span = record { start = span.place; count = extent_len span.len }

abbrev pub extents_of : List Block → List Range
extents_of blocks = map (λ b. extent_range b.span) blocks

-- the bytes of a block's extent as they are written: its own, with zeros behind them
abbrev pub extent_bytes : Block → List ℕ
extent_bytes b = b.bytes ++ replicate (extent_len (length b.bytes) - length b.bytes) 0

-- a file after these blocks were put at their spans, one after another
abbrev pub with_blocks : List Block → List ℕ → List ℕ
with_blocks [] file = file
with_blocks (b ∷ blocks) file = with_blocks blocks (put_bytes file b.span.place (extent_bytes b))

-- the image has the bytes of the block at its span
abbrev pub StandsAt : List ℕ → Block → Type 0
StandsAt image b = bytes_in image (span_range b.span) ≡ b.bytes

-- the block is as long as its span, which lies in the used part of a file that ends here
pub record IsBlockWithin (end : ℕ) (b : Block) : Type 0 where
  pub site : IsSite end b.span
  pub len : b.span.len ≡ length b.bytes

-- a block has no bytes and no place, or it lies in the used part of the file
abbrev pub IsSited : ℕ → Block → Type 0
IsSited end b = (b ≡ no_block) ⊎ IsBlockWithin end b

-- each block begins within a file of so many bytes, or where a block before it ended
abbrev pub BeginWithin : ℕ → List Block → Type 0
BeginWithin end [] = Unit {0}
BeginWithin end (b ∷ blocks) = (b.span.place ≤ end) × BeginWithin (max end (extent_end b.span)) blocks

-- a block that can be written: it lies behind the slots, is as long as its span, and its extent ends below 2^64
pub record IsWritable (b : Block) : Type 0 where
  pub behind : first_place ≤ b.span.place
  pub len : b.span.len ≡ length b.bytes
  pub end_fits : extent_end b.span < 2 ^ 64

-- blocks that can be written one after another: no two extents meet
pub record AreWritable (blocks : List Block) : Type 0 where
  pub each : All IsWritable blocks
  pub apart : AreApart (spans_of blocks)

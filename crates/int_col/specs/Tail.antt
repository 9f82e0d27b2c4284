-- What holds of the last segment of a column that grows: its fields, and the room that it has.
use Rattle.std.specs.Prelude.{ℕ, ◌≤◌, ℤ, List, length}
use Rattle.bit_pack.specs.declared.widths.Width.{Width}
use Rattle.bit_pack.specs.Packed.{packed_len}
use Rattle.segments.specs.Joined.{joined, counts_of}
use Rattle.int_col.specs.Cuts.{AreCuts}
use Rattle.int_col.specs.Segment.{IsSegment}

-- a segment, and room for as many values of its width as a segment has at most
pub record IsTail (count : ℕ) (w : Width) (bytes : List ℕ) (room : ℕ) : Type 0 where
  pub segment : IsSegment count w bytes
  pub roomy : packed_len w 2048 ≤ room

-- segments that a column may have
pub record AreSegments (segments : List (List ℤ)) : Type 0 where
  pub cut : AreCuts (counts_of segments)
  pub few : length (joined segments) ≤ 16777216

-- A list of values in segments, by how many segments there are.
use Rattle.std.specs.Prelude.{ℕ, ◌<◌, ◌≤◌, ℤ, List, [], ◌∷◌, length}
use Rattle.bit_pack.specs.declared.widths.Width.{Width}
use Rattle.bit_pack.specs.Width.{IsLeastWidth}
use Rattle.bit_pack.specs.Packed.{packed_len}
use Rattle.int_col.specs.declared.segmented.Kind.{Kind}
use Rattle.int_col.specs.declared.segmented.Kind.TheVariants.{Empty, One, Many, Growing}

-- the segments, each seen as the list of its values
abbrev pub segments_of : Kind → List (List ℤ)
segments_of (Empty alloc) = []
segments_of (One segment) = segment ∷ []
segments_of (Many spine) = spine
segments_of (Growing growing) = growing

-- a segment that stands alone has some values
abbrev pub IsSegmented : Kind → Type 0
IsSegmented (Empty alloc) = Unit {0}
IsSegmented (One segment) = 0 < length segment
IsSegmented (Many spine) = Unit {0}
IsSegmented (Growing growing) = Unit {0}

-- the packed bytes of the values from byte `from` on are to come
pub record IsCursor (w : Width) (values : List ℤ) (from : ℕ) : Type 0 where
  pub few : length values ≤ 16777216
  pub least : IsLeastWidth w values
  pub within : from ≤ packed_len w (length values)

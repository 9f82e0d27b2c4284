-- The list of a column's segments, each seen as the list of its values.
use Rattle.std.specs.Prelude.{◌≡◌, ℕ, ◌-◌, ◌<◌, ◌⊎◌, ℤ, List, [], length, slice_index_or, Option}
use Rattle.mk_value.specs.declared.span.Span.{Span}
use Rattle.segments.specs.Joined.{joined, counts_of}
use Rattle.int_col.specs.Cuts.{AreCuts}
use Rattle.int_col.specs.Numbers.{Numbers}
use Rattle.int_col.specs.Segment.{Takes}

-- what these segments and this home are seen as
abbrev pub numbers_of : List (List ℤ) → Option Span → Numbers
numbers_of segments home = record { values = joined segments; cuts = counts_of segments; home = home }

-- the segments are cut as they have to be, and these are their counts
pub record IsSpine (segments : List (List ℤ)) (counts : List ℕ) : Type 0 where
  pub cut : AreCuts (counts_of segments)
  pub counted : counts ≡ counts_of segments

-- the last segment takes one more value
pub record LastTakes (segments : List (List ℤ)) (v : ℤ) : Type 0 where
  pub some : 0 < length segments
  pub takes : Takes (slice_index_or segments (length segments - 1) []) v

-- the last segment, if there is one, has all values that a segment may have
abbrev pub IsLastFull : List (List ℤ) → Type 0
IsLastFull segments = (length segments ≡ 0) ⊎ (length (slice_index_or segments (length segments - 1) []) ≡ 2048)

-- there is a last segment, and it has room
pub record HasLastRoom (segments : List (List ℤ)) : Type 0 where
  pub some : 0 < length segments
  pub room : length (slice_index_or segments (length segments - 1) []) < 2048

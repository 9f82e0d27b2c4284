-- A splice that touches one segment alone.
use Rattle.std.specs.Prelude.{◌≡◌, ℕ, ◌+◌, ◌-◌, ◌<◌, ◌≤◌, List, length, slice_index, slice_set}
use Rattle.segments.specs.declared.segments.Place.{Place}
use Rattle.segments.specs.declared.splice.Splice.{Splice}
use Rattle.segments.specs.Segments.{start_of}
use Rattle.int_col.specs.Cuts.{AreCuts}
use Rattle.int_col.specs.declared.spine.Within.{Within}

-- the place is in a segment, or at its end
pub record IsPlaceOrEnd (counts : List ℕ) (at : ℕ) (p : Place) : Type 0 where
  pub segment : p.segment < length counts
  pub within : p.offset ≤ slice_index counts p.segment
  pub sum : start_of counts p.segment + p.offset ≡ at

-- the splice is one of a segment that has `size` values after it, and segments of these counts may stand there
pub record IsWithin (counts : List ℕ) (e : Splice) (w : Within) : Type 0 where
  pub in_range : w.segment < length counts
  pub at : start_of counts w.segment + w.splice.at ≡ e.at
  pub end : start_of counts w.segment + w.splice.end ≡ e.end
  pub count : w.splice.count ≡ e.count
  pub order : w.splice.at ≤ w.splice.end
  pub inside : w.splice.end ≤ slice_index counts w.segment
  pub size : w.size ≡ w.splice.at + w.splice.count + (slice_index counts w.segment - w.splice.end)
  pub few : w.size ≤ 2048
  pub cut : AreCuts (slice_set counts w.segment w.size)

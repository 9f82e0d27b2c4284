-- The place of a value, or of the end of the list, in its chunk.
use Rattle.std.specs.Prelude.{◌≡◌, ℕ, ◌+◌, ◌<◌, ◌≤◌, List, [], length, slice_index_or}
use Rattle.segments.specs.declared.segments.Place.{Place}
use Rattle.segments.specs.Segments.{start_of}
use Rattle.segments.specs.Joined.{counts_of}

-- the place is in this chunk, or at its end
pub record IsPlaceOrEnd (chunks : List (List (List ℕ))) (at : ℕ) (p : Place) : Type 0 where
  pub chunk : p.segment < length chunks
  pub within : p.offset ≤ length (slice_index_or chunks p.segment [])
  pub sum : start_of (counts_of chunks) p.segment + p.offset ≡ at

-- a value can be put in there
pub record HasRoomAt (chunks : List (List (List ℕ))) (at : ℕ) (p : Place) : Type 0 where
  pub place : IsPlaceOrEnd chunks at p
  pub room : length (slice_index_or chunks p.segment []) < 512

-- the value there can be taken away, and its chunk has some left
pub record HasMoreAt (chunks : List (List (List ℕ))) (at : ℕ) (p : Place) : Type 0 where
  pub place : IsPlaceOrEnd chunks at p
  pub before_end : p.offset < length (slice_index_or chunks p.segment [])
  pub more : 1 < length (slice_index_or chunks p.segment [])

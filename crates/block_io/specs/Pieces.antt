-- The pieces of a block.
use Rattle.std.specs.Prelude.{◌≡◌, ℕ, ◌+◌, ◌<◌, ◌≤◌, ◌⊎◌, List, [], ◌++◌, length, take, Result}
use Rattle.host_io.specs.Outside.{Outside}
use Rattle.host_io.specs.Ranges.{Puts}
use Rattle.block_io.specs.Parts.{rounded}

-- The front of this slice is the next piece of a block: of the bytes to come the next 4,096, or all that are left with their
-- rounding.
pub record IsPiece (slice : List ℕ) (len : ℕ) (old new : List ℕ) : Type 0 where
  pub cut : rounded old ≡ take len slice ++ rounded new
  pub within : len ≤ length slice
  pub whole : (len ≡ 4096) ⊎ (new ≡ [])
  pub fewer : length new < length old

-- a piece of so many bytes is gone from the bytes to come
pub record IsShorter (len : ℕ) (old new : List ℕ) : Type 0 where
  pub cut : len + length (rounded new) ≡ length (rounded old)
  pub fewer : length new < length old

-- the next piece of a block is put at a place: its next 4,096 bytes, or all that are left with their rounding
pub record PutsNext {T E : Type 0} (place : ℕ) (from to : List ℕ) (old new : Outside) (result : Result T E) : Type 0 where
  pub piece : List ℕ
  pub cut : rounded from ≡ piece ++ rounded to
  pub whole : (length piece ≡ 4096) ⊎ (to ≡ [])
  pub puts : Puts place piece old new result

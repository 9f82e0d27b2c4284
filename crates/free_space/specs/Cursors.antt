-- Where the search for the place of a block begins.
use Rattle.std.specs.Prelude.{◌≡◌, ℕ, ◌<◌, ◌≤◌, List, slice_index_or}
use Rattle.mk_value.specs.declared.span.Span.{Span}
use Rattle.free_space.specs.declared.cursor.Cursor.{Cursor}
use Rattle.free_space.specs.Extents.{IsAligned}
use Rattle.free_space.specs.FreeSpace.{CanStandAt}

-- a block of the cursor's length can stand at no place below it
pub record IsCursor (floor : ℕ) (used : List Span) (cursor : Cursor) : Type 0 where
  pub some : 0 < cursor.len
  pub aligned : IsAligned cursor.place
  pub from_floor : floor ≤ cursor.place
  pub least : (other : ℕ) → CanStandAt floor used cursor.len other → cursor.place ≤ other

pub record HasLen (cursor : Cursor) : Type 0 where
  pub some : 0 < cursor.len

pub record IsAtFloor (floor : ℕ) (cursor : Cursor) : Type 0 where
  pub some : 0 < cursor.len
  pub at : cursor.place ≡ floor

-- the cursor at this place of the list is no longer than a block of so many bytes
abbrev pub FitsAt : List Cursor → ℕ → ℕ → Type 0
FitsAt cursors len at = (d : Cursor) → (slice_index_or cursors at d).len ≤ len

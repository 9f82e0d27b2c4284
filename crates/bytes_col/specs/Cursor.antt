-- Where the writing of short bytes has come to.
use Rattle.std.specs.Prelude.{◌≡◌, ℕ, ◌≤◌, List, length}
use Rattle.bytes_col.specs.Filled.{short_from}

-- the place is in the list, and so many bytes are to come
pub record IsCursor (values : List (List ℕ)) (row skip bytes : ℕ) : Type 0 where
  pub in_range : row ≤ length values
  pub left : bytes ≡ length (short_from values row skip)

-- Short bytes that are written from a place on.
use Rattle.std.specs.Prelude.{◌≡◌, ℕ, ◌+◌, ◌<◌, ◌≤◌, List, length, take, drop}
use Rattle.bytes_col.specs.declared.fill.Filled.{Filled}
use Rattle.bytes_col.specs.Strings.{short_bytes}

-- the short bytes of the values from a row on, from a byte on
abbrev pub short_from : List (List ℕ) → ℕ → ℕ → List ℕ
short_from values row skip = drop skip (short_bytes (drop row values))

-- The bytes begin with those from here on, which end at the place that is named.
pub record HasFilled (values : List (List ℕ)) (row skip room : ℕ) (bytes : List ℕ) (f : Filled) : Type 0 where
  pub in_range : f.row ≤ length values
  pub onward : row ≤ f.row
  pub within : f.bytes ≤ room
  pub there : f.bytes ≤ length (short_from values row skip)
  pub filled : take f.bytes bytes ≡ take f.bytes (short_from values row skip)
  pub place : skip + f.bytes + length (short_bytes (drop f.row values)) ≡ f.skip + length (short_bytes (drop row values))

-- the same, and it went on
pub record Fills (values : List (List ℕ)) (row skip : ℕ) (old new : List ℕ) (f : Filled) : Type 0 where
  pub has : HasFilled values row skip (length old) new f
  pub goes : row < f.row + f.bytes

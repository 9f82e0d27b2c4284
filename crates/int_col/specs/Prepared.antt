-- One more value, for which a column has made itself ready.
use Rattle.std.specs.Prelude.{◌≡◌, ◌<◌, ℤ, [], ◌∷◌, ◌++◌, length, None}
use Rattle.segments.specs.Joined.{joined}
use Rattle.int_col.specs.declared.prepared.Way.{Way}
use Rattle.int_col.specs.declared.prepared.Way.TheVariants.{InPlace, Copied}
use Rattle.int_col.specs.Numbers.{Numbers}
use Rattle.int_col.specs.Spine.{numbers_of, LastTakes}

-- the column as it is without the value
abbrev pub column_before : Way → Numbers
column_before (InPlace growing home) = numbers_of growing home
column_before (Copied copied) = copied.value.before

-- the last segment takes the value, or there is a column with it
abbrev pub IsPrepared : Way → ℤ → Type 0
IsPrepared (InPlace growing home) v = LastTakes growing v × (length (joined growing) < 16777216)
IsPrepared (Copied copied) v = (copied.value.longer.values ≡ copied.value.before.values ++ v ∷ []) × (copied.value.longer.home ≡ None)

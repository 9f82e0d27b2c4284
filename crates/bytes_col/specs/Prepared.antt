-- One more value, for which a column has made itself ready.
use Rattle.std.specs.Prelude.{◌≡◌, ℕ, List, [], ◌∷◌, ◌++◌, None}
use Rattle.int_col.specs.Numbers.{Push as NumbersPush}
use Rattle.segments.specs.Joined.{joined}
use Rattle.bytes_col.specs.declared.prepared.Way.{Way}
use Rattle.bytes_col.specs.declared.prepared.Way.TheVariants.{InPlace, Copied}
use Rattle.bytes_col.specs.Growing.{front, EndsWithSome}
use Rattle.bytes_col.specs.Strings.{Strings, sizes_of}
use Rattle.bytes_col.specs.Spine.{HasSizes}

-- the column as it is without the value
abbrev pub column_before : Way → Strings
column_before (InPlace growing sizes home) = record { values = front (joined growing); home = home }
column_before (Copied copied) = copied.value.before

-- the values with it
abbrev pub values_after : Way → List (List ℕ)
values_after (InPlace growing sizes home) = joined growing
values_after (Copied copied) = copied.value.longer.values

-- these are the sizes of all values but the last, and the size of that
pub record AreSizes (values : List (List ℕ)) (sizes : NumbersPush) : Type 0 where
  pub before : HasSizes (front values) sizes.column
  pub after : sizes.column.values ++ sizes.value ∷ [] ≡ sizes_of values

-- the last chunk has the value, with its size beside; or there is a column with it
abbrev pub IsPrepared : Way → Type 0
IsPrepared (InPlace growing sizes home) = EndsWithSome growing × AreSizes (joined growing) sizes
IsPrepared (Copied copied) = copied.value.longer.home ≡ None

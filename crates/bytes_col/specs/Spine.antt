-- The list of a column's chunks, each seen as the list of its values.
use Rattle.std.specs.Prelude.{◌≡◌, ℕ, ◌-◌, ◌<◌, List, [], length, slice_index_or, Option, None}
use Rattle.std.specs.List.{All}
use Rattle.int_col.specs.Numbers.{Numbers}
use Rattle.bytes_col.specs.declared.home.BytesHome.{BytesHome}
use Rattle.segments.specs.Joined.{joined, counts_of}
use Rattle.bytes_col.specs.Strings.{Strings, sizes_of}

-- what these chunks and this home are seen as
abbrev pub strings_of : List (List (List ℕ)) → Option BytesHome → Strings
strings_of chunks home = record { values = joined chunks; home = home }

-- no chunk is empty
abbrev pub AreSome : List (List (List ℕ)) → Type 0
AreSome chunks = All (λ chunk. 0 < length chunk) chunks

-- no chunk is empty, and these are their counts
pub record IsSpine (chunks : List (List (List ℕ))) (counts : List ℕ) : Type 0 where
  pub some : AreSome chunks
  pub counted : counts ≡ counts_of chunks

-- these are the sizes of the values
pub record HasSizes (values : List (List ℕ)) (sizes : Numbers) : Type 0 where
  pub are : sizes.values ≡ sizes_of values
  pub nowhere : sizes.home ≡ None

-- the last chunk takes one more value
pub record LastTakes (chunks : List (List (List ℕ))) : Type 0 where
  pub some : 0 < length chunks
  pub room : length (slice_index_or chunks (length chunks - 1) []) < 512

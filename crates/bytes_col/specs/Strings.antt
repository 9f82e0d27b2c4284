-- What a column of byte strings is seen as, and the parts that it is written in.
use Rattle.std.specs.Prelude.{ℕ, zero, suc, ℤ, pos, Bool, not, nat_le, List, length, map, slice_index_or, [], ◌∷◌, Option, None}
use Rattle.std.specs.List.{filter, concat, range_with_len}
use Rattle.bit_pack.specs.Packed.{packed}
use Rattle.bytes_col.specs.declared.home.BytesHome.{BytesHome}

-- the values, and where the column stands in a file
pub record Strings : Type 0 where
  pub values : List (List ℕ)
  pub home : Option BytesHome

-- a column, and the values that it is to have in place of its own
pub record Push : Type 0 where
  pub column : Strings
  pub values : List (List ℕ)

-- a value of at most 512 bytes is short, and a longer one is a memo
abbrev pub is_short : List ℕ → Bool
is_short value = nat_le (length value) 512

-- the size of each value in bytes
abbrev pub sizes_of : List (List ℕ) → List ℤ
sizes_of values = map (λ value. pos (length value)) values

-- the short values joined, in the order of the rows
abbrev pub short_bytes : List (List ℕ) → List ℕ
short_bytes values = concat (filter is_short values)

-- the rows whose values are memos, ascending
abbrev pub memo_rows : List (List ℕ) → List ℕ
memo_rows values = filter (λ row. not (is_short (slice_index_or values row []))) (range_with_len 0 (length values))

-- the home after a splice of n values: none, unless there are none
abbrev pub home_after : ℕ → Option BytesHome → Option BytesHome
home_after zero home = home
home_after (suc n) home = None

-- the memos, in the order of the rows
abbrev pub long_values : List (List ℕ) → List (List ℕ)
long_values values = filter (λ value. not (is_short value)) values

-- The blocks of a column, as bytes: its sizes packed, its short values joined, and each memo.
abbrev pub string_blocks : List (List ℕ) → List (List ℕ)
string_blocks values = packed (sizes_of values) ∷ short_bytes values ∷ long_values values

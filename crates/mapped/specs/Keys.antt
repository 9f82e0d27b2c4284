-- Keys: the first values of rows.
use Rattle.std.specs.Prelude.{◌≡◌, ◌≢◌, ◌≤◌, ◌<◌, ℕ, pos, Bool, ◌&&◌, nat_lt, if◌then◌else◌, List, [], length, map, take, insert, slice_set, slice_index_or, count_by}
use Rattle.std.specs.declared.cmp.Ordering.{Ordering}
use Rattle.std.specs.declared.cmp.Ordering.TheVariants.{Less}
use Rattle.std.specs.Ordering.{is_lt, is_eq}
use Rattle.std.specs.Cmp.Lexicographic.{slice_cmp}
use Rattle.std.specs.List.{AllPairs}
use Rattle.mk_value.specs.Heading.{Attribute}
use Rattle.mk_value.specs.Data.{Datum, integer}
use Rattle.mk_value.specs.Order.{value_cmp}
use Rattle.mk_value.specs.Tables.{IsComparable, domain_at}
use Rattle.mapped.specs.declared.ordered.Put.{Put}
use Rattle.mapped.specs.declared.ordered.Put.TheVariants.{Replace, Insert}

-- the keys of rows: the first values of each, so many
abbrev pub keys_of : ℕ → List (List Datum) → List (List Datum)
keys_of count rows = map (take count) rows

-- the first value that differs decides, and a proper prefix is less
abbrev pub key_cmp : List Datum → List Datum → Ordering
key_cmp = slice_cmp value_cmp

-- a row beside a key: as many of its first values as the key has
abbrev pub row_to_key : List Datum → List Datum → Ordering
row_to_key row key = key_cmp (take (length key) row) key

-- the values of a key are of the kinds of the first properties, which are no views
pub record IsKeyFor (schema : List Attribute) (key : List Datum) : Type 0 where
  pub few : length key ≤ length schema
  pub comparable : (i : ℕ) → i < length key → IsComparable (slice_index_or key i (integer (pos 0))) (domain_at schema i)

-- each row's key is less than those of the rows behind it
abbrev pub AscendByKey : ℕ → List (List Datum) → Type 0
AscendByKey count rows = AllPairs (λ a b. key_cmp (take count a) (take count b) ≡ Less) rows

-- the number of rows whose keys are less
abbrev pub rows_below : List Datum → List (List Datum) → ℕ
rows_below key rows = count_by (λ row. is_lt (row_to_key row key)) rows

-- a place among rows: the key is above all rows in front of it, and above none from it on
pub record IsLower (key : List Datum) (rows : List (List Datum)) (at : ℕ) : Type 0 where
  pub within : at ≤ length rows
  pub below : (i : ℕ) → i < at → row_to_key (slice_index_or rows i []) key ≡ Less
  pub from : (i : ℕ) → at ≤ i → i < length rows → row_to_key (slice_index_or rows i []) key ≢ Less

-- the row at a place has the key
abbrev pub has_key : List Datum → List (List Datum) → ℕ → Bool
has_key key rows at = nat_lt at (length rows) && is_eq (row_to_key (slice_index_or rows at []) key)

-- where a row of this key is put: in the place of the row that has the key, or else behind the rows whose keys are less
abbrev pub put_of : List Datum → List (List Datum) → Put
put_of key rows = let at = rows_below key rows in if has_key key rows at then Replace at else Insert at

-- rows into which one is put
abbrev pub after_put : Put → List Datum → List (List Datum) → List (List Datum)
after_put (Replace at) row rows = slice_set rows at row
after_put (Insert at) row rows = insert rows at row

-- What is inside a table is smaller than it.
use Rattle.std.proofs.Common.{◌≡◌, ℕ, zero, suc, ◌+◌, ◌<◌, ◌≤◌, List, [], ◌∷◌, length, get_or, map, ap, arith}
use Rattle.std.proofs.lemmas.Option.{get_or_from_slice_get, slice_get_within}
use Rattle.std.specs.List.{slice_get}
use Rattle.std.specs.Prelude.{Some}
use denote.Param.Weighed.{most}
use Rattle.mk_value.specs.Heading.{Attribute}
use Rattle.tables.specs.Tables.{StoredTable}
use Rattle.tables.specs.Columns.{StoredColumn, table_of_columns, AreColumnsOf}
use Rattle.tables.specs.Sizes.{column_size, columns_size, item_size, table_size, tables_size}
use Rattle.tables.specs.Stored.{stored_of}
use Rattle.tables.specs.Falls.{table_falls}
use Rattle.tables.specs.declared.cols.Col.{Col}

pub columns_lighter : (n : ℕ) (schema : List Attribute) (cols : List StoredColumn) (t : StoredTable) → t ≡ table_of_columns n schema cols → AreColumnsOf n schema cols → columns_size cols < table_size t
columns_lighter n schema cols t e h =
    let falls = table_falls (record { schema = schema; rows = n; cols = cols }) h in
    let same = ap table_size e in
    omega (arith, falls, same)

one_of : {X : Type 0} (size : X → ℕ) (xs : List X) (k : ℕ) (d : X) → k < length xs → size (get_or xs k d) ≤ most size xs
one_of size [] k d p = absurd (omega (arith, p))
one_of size (x ∷ xs) zero d p = omega arith
one_of size (x ∷ xs) (suc k) d p = let r = one_of size xs k d (omega (arith, p)) in omega (arith, r)

most-map : (items : List Col) → most column_size (map stored_of items) ≡ most (λ c. column_size (stored_of c)) items
most-map [] = omega arith
most-map (c ∷ items) = let e = most-map items in omega (arith, e)

-- a column that was read among them
pub column_within : (cols : List StoredColumn) (items : List Col) (k : ℕ) (item : Col) → map stored_of items ≡ cols → item ≡ get_or items k item → k < length items → column_size (stored_of item) ≤ columns_size cols
column_within cols items k item same is p =
    let one = one_of (λ c. column_size (stored_of c)) items k item p in
    let all = most-map items in
    let here = ap (λ c. column_size (stored_of c)) is in
    let there = ap columns_size same in
    omega (arith, one, all, here, there)

-- a table that was read in a row of a view column
pub table_within : (ts : List StoredTable) (row : ℕ) (t : StoredTable) → slice_get ts row ≡ Some t → table_size t < tables_size ts
table_within ts row t e =
    let one = one_of (λ u. item_size u + 1) ts row t (slice_get_within ts row t e) in
    let here = ap table_size (get_or_from_slice_get ts row t t e) in
    omega (arith, one, here)

-- Rows put into a table and removed from it: what is left of the rows, and of the homes of the columns.
use Rattle.std.specs.Prelude.{ℕ, zero, suc, ◌+◌, List, [], ◌∷◌, ◌++◌, length, map, take, drop, replicate}
use Rattle.mk_value.specs.Heading.{Domain, Attribute}
use Rattle.mk_value.specs.Data.{Datum, default_of}
use Rattle.tables.specs.Homes.{Home, no_home, tables, each_of, row_homes, empty_homes_in}
use Rattle.tables.specs.Tables.{StoredTable}

-- a list after n times x was put at a place, and after n of its elements from a place on were removed
abbrev pub inserted : {X : Type 0} → ℕ → ℕ → X → List X → List X
inserted at n x xs = take at xs ++ (replicate n x ++ drop at xs)

abbrev pub removed : {X : Type 0} → ℕ → ℕ → List X → List X
removed at n xs = take at xs ++ drop (at + n) xs

-- a row whose values missing at its end are defaults
abbrev pub completed : List Attribute → List Datum → List Datum
completed schema row = row ++ map (λ a. default_of a.domain) (drop (length row) schema)

-- the home of a column after n times a row with this value was put at a place: a plain column has none, and the tables put in have none
abbrev pub home_inserted : ℕ → ℕ → Domain → Datum → Home → Home
home_inserted at n e d (tables rows) = tables (row_homes (inserted at n (empty_homes_in e d) (each_of rows)))
home_inserted at n e d _ = no_home

abbrev pub homes_inserted : ℕ → ℕ → List Attribute → List Datum → List Home → List Home
homes_inserted at n (a ∷ schema) (d ∷ row) (h ∷ homes) = home_inserted at n a.domain d h ∷ homes_inserted at n schema row homes
homes_inserted at n _ _ _ = []

-- the home of a column after n rows from a place on were removed: a plain column has none
abbrev pub home_removed : ℕ → ℕ → Home → Home
home_removed at n (tables rows) = tables (row_homes (removed at n (each_of rows)))
home_removed at n _ = no_home

-- a table after rows were put in or removed; where there are none of them it is as before
abbrev pub with_rows_inserted : ℕ → List Datum → ℕ → StoredTable → StoredTable
with_rows_inserted at row zero t = t
with_rows_inserted at row (suc n) t = record {
  schema = t.schema;
  rows = inserted at (suc n) row t.rows;
  homes = homes_inserted at (suc n) t.schema row t.homes;
}

abbrev pub with_rows_removed : ℕ → ℕ → StoredTable → StoredTable
with_rows_removed at zero t = t
with_rows_removed at (suc n) t = record {
  schema = t.schema;
  rows = removed at (suc n) t.rows;
  homes = map (home_removed at (suc n)) t.homes;
}

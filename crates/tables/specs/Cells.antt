-- A column after one of its values was given another.
use Rattle.std.specs.Prelude.{◌≡◌, ℕ, ◌<◌, ℤ, List, length, slice_set, slice_index_or, None}
use Rattle.mk_value.specs.Heading.{Domain}
use Rattle.mk_value.specs.Data.{Datum}
use Rattle.tables.specs.Homes.{Home}
use Rattle.tables.specs.Tables.{StoredTable, home_with}
use Rattle.tables.specs.Columns.{StoredColumn, integers, texts, views, no_column, home_of, column_values, IsColumnOf, IsColumnWith}

-- the column keeps values of the kind, one of them at the place
abbrev pub HasNumber : StoredColumn → ℕ → Type 0
HasNumber (integers c) i = i < length c.values
HasNumber _ i = ⊥

abbrev pub HasString : StoredColumn → ℕ → Type 0
HasString (texts c) i = i < length c.values
HasString _ i = ⊥

abbrev pub HasView : StoredColumn → ℕ → Type 0
HasView (views ts) i = i < length ts
HasView _ i = ⊥

-- the column after its value at a place was given another: a plain column has no home
abbrev pub with_number : ℕ → ℤ → StoredColumn → StoredColumn
with_number i z (integers c) = integers (record c { values = slice_set c.values i z; home = None })
with_number i z c = c

abbrev pub with_string : ℕ → List ℕ → StoredColumn → StoredColumn
with_string i v (texts c) = texts (record c { values = slice_set c.values i v; home = None })
with_string i v c = c

abbrev pub with_view : ℕ → StoredTable → StoredColumn → StoredColumn
with_view i t (views ts) = views (slice_set ts i t)
with_view i t c = c

-- a whole column of the domain
abbrev pub IsWholeColumn : Domain → StoredColumn → Type 0
IsWholeColumn e c = IsColumnOf (length (column_values e c)) e c

-- a column of the domain after the value in row i was given another, the rows in which have these homes
abbrev pub IsSet : StoredColumn → Domain → ℕ → Datum → List Home → StoredColumn → Type 0
IsSet old e i d homes new = IsColumnWith e (slice_set (column_values e old) i d) (home_with i homes (home_of old)) new

-- the columns after that of column k; the others are as they were
pub record IsSetIn (old : List StoredColumn) (k : ℕ) (e : Domain) (i : ℕ) (d : Datum) (homes : List Home) (new : List StoredColumn) : Type 0 where
  pub column : StoredColumn
  pub set_is : IsSet (slice_index_or old k no_column) e i d homes column
  pub others : new ≡ slice_set old k column

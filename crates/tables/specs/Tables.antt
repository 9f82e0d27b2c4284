-- What a contract sees of a table: a schema, rows, and the homes of its columns.
use Rattle.std.specs.Prelude.{◌≡◌, ℕ, List, [], slice_index_or, slice_set, unwrap_or, refl}
use Rattle.std.specs.Coded.{Coded, code_by, coded×}
use Rattle.mk_value.specs.Heading.{Domain, Attribute, attributes_of, attributes_code, find, IsHeading}
use Rattle.mk_value.specs.Data.{Datum, relation, relation_of, cell, AreRowsOf}
use Rattle.mk_value.specs.DataCode.{rows_code}
use Rattle.mk_value.specs.Tables.{domain_at}
use Rattle.tables.specs.Homes.{Home, no_home, tables, each_of, row_homes, rows_in, empty_homes}
use Rattle.tables.specs.HomeCode.{homes_code}

-- a schema, rows, and a home for each column
pub record StoredTable : Type 0 where
  pub schema : List Attribute
  pub rows : List (List Datum)
  pub homes : List Home

abbrev pub stored_code : Coded StoredTable
stored_code =
    code_by (List Attribute × (List (List Datum) × List Home)) (coded× attributes_code (coded× rows_code homes_code))
    (λ t. (t.schema, (t.rows, t.homes))) (λ p. record { schema = p.0; rows = p.1.0; homes = p.1.1 }) (λ _. refl)

-- a whole table: a whole schema, and rows of it
pub record IsTable (t : StoredTable) : Type 0 where
  pub schema : IsHeading t.schema
  pub rows : AreRowsOf t.rows t.schema

-- the table of these rows in which no column has a home
abbrev pub table_without_homes : List Attribute → List (List Datum) → StoredTable
table_without_homes schema rows = record { schema = schema; rows = rows; homes = empty_homes schema rows }

abbrev pub HasNoHomes : StoredTable → Type 0
HasNoHomes t = t ≡ table_without_homes t.schema t.rows

-- the place of a property in a schema, and the schema of a view property
abbrev pub place_of_property : List Attribute → List ℕ → ℕ
place_of_property schema name = unwrap_or (find schema name) 0

abbrev pub inner_schema : Domain → List Attribute
inner_schema (Domain.relation h) = attributes_of h
inner_schema _ = []

-- the homes of the table in one row of a column
abbrev pub homes_in : Home → ℕ → List Home
homes_in (tables rows) i = slice_index_or (each_of rows) i []
homes_in _ i = []

-- the table in the cell at row i and column k
abbrev pub inner_table : StoredTable → ℕ → ℕ → StoredTable
inner_table t i k = record {
  schema = inner_schema (domain_at t.schema k);
  rows = rows_in (cell t.rows i k);
  homes = homes_in (slice_index_or t.homes k no_home) i;
}

-- the home of a column after its value in row i was given another, the rows in which have these homes: a plain column has none
abbrev pub home_with : ℕ → List Home → Home → Home
home_with i homes (tables rows) = tables (row_homes (slice_set (each_of rows) i homes))
home_with i homes _ = no_home

-- the table after the value at row i and column k was given another, the rows in which have these homes
abbrev pub with_value : StoredTable → ℕ → ℕ → Datum → List Home → StoredTable
with_value t i k d homes = record {
  schema = t.schema;
  rows = slice_set t.rows i (slice_set (slice_index_or t.rows i []) k d);
  homes = slice_set t.homes k (home_with i homes (slice_index_or t.homes k no_home));
}

-- the table after the table in the cell at row i and column k was given another
abbrev pub with_inner : StoredTable → ℕ → ℕ → StoredTable → StoredTable
with_inner t i k inner = with_value t i k (relation (relation_of inner.rows)) inner.homes

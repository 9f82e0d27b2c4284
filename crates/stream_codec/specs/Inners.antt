-- Tables inside the row that is coming.
use Rattle.std.specs.Prelude.{◌≡◌, ℕ, ◌+◌, ◌<◌, ◌≤◌, List, [], ◌∷◌, length, All, slice_set}
use Rattle.mk_value.specs.Data.{Datum, relation, relation_of}
use Rattle.mk_value.specs.Heading.{Attribute, Domain, heading_of}
use Rattle.mk_value.specs.Limits.{max_rows}
use Rattle.mk_value.specs.Tables.{domain_at}
use Rattle.stream_codec.specs.Progress.{IsFront}
use Rattle.stream_codec.specs.declared.inner.Inner.{Inner}
use Rattle.tables.specs.Tables.{HasNoHomes, StoredTable}

-- the row with the rows of these tables in their places
abbrev pub with_inners : List Inner → List Datum → List Datum
with_inners [] row = row
with_inners (i ∷ rest) row = with_inners rest (slice_set row i.col (relation (relation_of i.table.rows)))

-- a table that fits its place in a row of the schema
pub record IsInner (schema : List Attribute) (i : Inner) : Type 0 where
  pub within : i.col < length schema
  pub view : domain_at schema i.col ≡ Domain.relation (heading_of i.table.schema)
  pub homeless : HasNoHomes i.table

-- what is kept of a table under way: the table of the rows that came, the first values of the row that is coming, the tables inside it,
-- and how many rows come behind it
pub record IsPartialTable (table : StoredTable) (row : List Datum) (inners : List Inner) (left : ℕ) : Type 0 where
  pub homeless : HasNoHomes table
  pub few : length table.rows + 1 + left ≤ max_rows
  pub front : IsFront row table.schema
  pub inside : All (IsInner table.schema) inners
  pub before : All (λ i. i.col < length row) inners

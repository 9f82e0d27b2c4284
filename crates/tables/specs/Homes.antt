-- Homes: the blocks of a file that the columns of a table were read from or written to.
use Rattle.std.specs.Prelude.{ℕ, ◌+◌, pos, List, [], ◌∷◌, map, slice_index_or}
use Rattle.mk_value.specs.declared.span.Span.{Span}
use Rattle.mk_value.specs.Heading.{Domain, Heading, no_attributes, attribute, Attribute, heading_of}
use Rattle.mk_value.specs.Data.{Datum, integer, relation, rows_of}

-- The home of a column. A plain column has none, or, of numbers, one block, or, of texts and byte strings, the block of their sizes,
-- the block of the short ones and a block for each long one. A view column has no block of its own: what it has are the homes of
-- the columns of each row's table. Columns and rows are spelled out one by one: the first, and the rest.
mutual
  pub data Home : Type 0 where
    no_home : Home
    numbers : Span → Home
    strings : Span → Span → List Span → Home
    tables : RowHomes → Home

  pub data ColumnHomes : Type 0 where
    no_columns : ColumnHomes
    column : Home → ColumnHomes → ColumnHomes

  pub data RowHomes : Type 0 where
    no_rows : RowHomes
    row : ColumnHomes → RowHomes → RowHomes

-- a plain column: its domain, its values, and its home, which may be none
pub record PlainColumn : Type 0 where
  pub domain : Domain
  pub values : List Datum
  pub home : Home

-- the same homes as lists, and back
abbrev pub columns_of : ColumnHomes → List Home
columns_of no_columns = []
columns_of (column h rest) = h ∷ columns_of rest

abbrev pub column_homes : List Home → ColumnHomes
column_homes [] = no_columns
column_homes (h ∷ rest) = column h (column_homes rest)

abbrev pub each_of : RowHomes → List (List Home)
each_of no_rows = []
each_of (row hs rest) = columns_of hs ∷ each_of rest

abbrev pub row_homes : List (List Home) → RowHomes
row_homes [] = no_rows
row_homes (hs ∷ rest) = row (column_homes hs) (row_homes rest)

-- the values of a column, in the order of the rows; the number 0 where there is none
abbrev pub column_of : List (List Datum) → ℕ → List Datum
column_of rows k = map (λ values. slice_index_or values k (integer (pos 0))) rows

-- the rows in a value
abbrev pub rows_in : Datum → List (List Datum)
rows_in (relation r) = rows_of r
rows_in _ = []

-- The homes where no column has one: of a column of a domain with these values, and of the columns from the place k on.
abbrev mutual
  pub empty_home : Domain → List Datum → Home
  empty_home (Domain.relation h) values = tables (row_homes (map (λ d. empty_homes_from h 0 (rows_in d)) values))
  empty_home _ values = no_home

  pub empty_homes_from : Heading → ℕ → List (List Datum) → List Home
  empty_homes_from no_attributes k rows = []
  empty_homes_from (attribute n e rest) k rows = empty_home e (column_of rows k) ∷ empty_homes_from rest (k + 1) rows

-- the homes of a table where no column has one
abbrev pub empty_homes : List Attribute → List (List Datum) → List Home
empty_homes schema rows = empty_homes_from (heading_of schema) 0 rows

-- the homes of the rows in a value of a domain, where no column has one
abbrev pub empty_homes_in : Domain → Datum → List Home
empty_homes_in (Domain.relation h) d = empty_homes_from h 0 (rows_in d)
empty_homes_in _ d = []

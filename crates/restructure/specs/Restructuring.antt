-- Restructuring: the rows of a table under another schema, and the homes of their columns.
use Rattle.std.specs.Prelude.{ℕ, ◌^◌, ℤ, pos, not, ◌&&◌, ◌==◌, if◌then◌else◌, List, [], ◌∷◌, map, slice_index_or, unwrap_or, Option}
use Rattle.std.specs.Option.{option_map}
use Rattle.std.specs.List.{list_all}
use Rattle.std.specs.Str.{is_utf8}
use Rattle.mk_value.specs.Heading.{Domain, Heading, no_attributes, attribute, Attribute, attributes_of, heading_of, find}
use Rattle.mk_value.specs.Data.{Datum, integer, long, text, bytes, relation, relation_of, default_of}
use Rattle.mk_value.specs.Tables.{domain_at}
use Rattle.view_store.specs.Fitting.{is_within}
use Rattle.tables.specs.Homes.{Home, no_home, tables, each_of, row_homes, column_of, rows_in, empty_home}
use Rattle.tables.specs.Tables.{StoredTable, inner_schema}

-- a number where it has 32 bits, else 0
abbrev pub narrowed : ℤ → ℤ
narrowed z = if is_within (2 ^ 31) z then z else pos 0

-- bytes where they are UTF-8 without a zero byte, else none
abbrev pub text_or_empty : List ℕ → List ℕ
text_or_empty content = if is_utf8 content && list_all (λ b. not (b == 0)) content then content else []

-- A value under a property of a plain domain: of the same kind it stays; numbers and bytes go over to the other kind that has them,
-- as far as it does; under any other kind there is the default.
abbrev pub converted : Domain → Datum → Datum
converted Domain.integer (integer z) = integer z
converted Domain.long (long z) = long z
converted Domain.text (text content) = text content
converted Domain.bytes (bytes content) = bytes content
converted Domain.long (integer z) = long z
converted Domain.integer (long z) = integer (narrowed z)
converted Domain.bytes (text content) = bytes content
converted Domain.text (bytes content) = text (text_or_empty content)
converted new d = default_of new

-- A value of an old domain under a new one: a view becomes one of the same rows, each under the new heading; a value that is no view
-- has no rows. A row under a new heading has for each property what the value of the old one of its name becomes, or the default where
-- there is none.
abbrev mutual
  pub restructured_value : Domain → Domain → Datum → Datum
  restructured_value old (Domain.relation new) d = relation (relation_of (map (λ row. row_under (inner_schema old) new row) (rows_in d)))
  restructured_value old new d = converted new d

  pub row_under : List Attribute → Heading → List Datum → List Datum
  row_under old no_attributes row = []
  row_under old (attribute name new rest) row =
      unwrap_or (option_map (λ k. restructured_value (domain_at old k) new (slice_index_or row k (integer (pos 0)))) (find old name)) (default_of new)
      ∷ row_under old rest row

-- the value of a row under a property that has this place in the old schema, or none
abbrev pub value_under : List Attribute → Option ℕ → Domain → List Datum → Datum
value_under old place new row =
    unwrap_or (option_map (λ k. restructured_value (domain_at old k) new (slice_index_or row k (integer (pos 0)))) place) (default_of new)

-- a row, and rows, of an old schema under a new one
abbrev pub restructured_row : List Attribute → List Attribute → List Datum → List Datum
restructured_row old new row = row_under old (heading_of new) row

abbrev pub restructured_rows : List Attribute → List Attribute → List (List Datum) → List (List Datum)
restructured_rows old new rows = map (restructured_row old new) rows

-- the place of each new property in the old schema
abbrev pub places_in : List Attribute → List Attribute → List (Option ℕ)
places_in old new = map (λ a. find old a.name) new

-- what a function gives at each place of two lists
abbrev pub zip_with : {X Y Z : Type 0} → (X → Y → Z) → List X → List Y → List Z
zip_with f (x ∷ xs) (y ∷ ys) = f x y ∷ zip_with f xs ys
zip_with f _ _ = []

-- The home of a column of an old domain, with these values, under a new domain: a plain column of the same kind keeps it, the view in
-- each row keeps those of its columns by the same rule, and any other column has none.
abbrev mutual
  pub restructured_home : Domain → Domain → Home → List Datum → Home
  restructured_home Domain.integer Domain.integer home values = home
  restructured_home Domain.long Domain.long home values = home
  restructured_home Domain.text Domain.text home values = home
  restructured_home Domain.bytes Domain.bytes home values = home
  restructured_home (Domain.relation old) (Domain.relation new) (tables rows) values =
      tables (row_homes (zip_with (λ homes d. homes_under (attributes_of old) new homes (rows_in d)) (each_of rows) values))
  restructured_home old new home values = empty_home new (map (restructured_value old new) values)

  -- of the columns of a table with these homes and rows, under a new heading: a new property has the column of the old one of its name
  pub homes_under : List Attribute → Heading → List Home → List (List Datum) → List Home
  homes_under old no_attributes homes rows = []
  homes_under old (attribute name new rest) homes rows =
      unwrap_or (option_map (λ k. restructured_home (domain_at old k) new (slice_index_or homes k no_home) (column_of rows k)) (find old name))
      (empty_home new (map (λ _. default_of new) rows))
      ∷ homes_under old rest homes rows

-- the home of the column of a property that has this place in the old schema, or none
abbrev pub home_under : List Attribute → Option ℕ → Domain → List Home → List (List Datum) → Home
home_under old place new homes rows =
    unwrap_or (option_map (λ k. restructured_home (domain_at old k) new (slice_index_or homes k no_home) (column_of rows k)) place)
    (empty_home new (map (λ _. default_of new) rows))

-- a table under a new schema
abbrev pub restructured : StoredTable → List Attribute → StoredTable
restructured t new = record {
  schema = new;
  rows = restructured_rows t.schema new t.rows;
  homes = homes_under t.schema (heading_of new) t.homes t.rows;
}

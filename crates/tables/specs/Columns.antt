-- Tables as columns: what is seen of each column, and the table that the columns are.
use Rattle.std.specs.Prelude.{◌≡◌, ℕ, ◌<◌, ◌≤◌, ℤ, pos, List, [], ◌∷◌, length, map, All, slice_index_or, Option, None, Some, ◌⊎◌, FitsSigned, refl}
use Rattle.std.proofs.Common.{inl, inr}
use Rattle.std.specs.Int.{w32, w64}
use Rattle.std.specs.List.{AllZip, range_with_len}
use Rattle.std.specs.Coded.{Coded, code_by, coded_ℕ, coded_ℤ, coded_list, coded_option, coded×, coded⊎}
use Rattle.mk_value.specs.declared.span.Span.{Span}
use Rattle.mk_value.specs.Limits.{max_bytes, max_rows}
use Rattle.mk_value.specs.Heading.{Domain, Attribute, attributes_of}
use Rattle.mk_value.specs.Data.{Datum, integer, relation_of, IsText, AreRowsOf}
use Rattle.mk_value.specs.Tables.{domain_at}
use Rattle.int_col.specs.Numbers.{Numbers}
use Rattle.bytes_col.specs.declared.home.BytesHome.{BytesHome}
use Rattle.bytes_col.specs.Strings.{Strings, long_values}
use Rattle.tables.specs.Homes.{Home, no_home, numbers, strings, tables, row_homes, column_of}
use Rattle.tables.specs.Tables.{StoredTable, stored_code}
use Rattle.tables.specs.Shapes.{HasHomes}

-- a column: integers, texts or byte strings, or the tables in the rows of a view
pub data StoredColumn : Type 0 where
  integers : Numbers → StoredColumn
  texts : Strings → StoredColumn
  views : List StoredTable → StoredColumn

-- what stands for a column where there is none
abbrev pub no_column : StoredColumn
no_column = views []

-- the home of a column
abbrev pub home_of_numbers : Option Span → Home
home_of_numbers None = no_home
home_of_numbers (Some block) = numbers block

abbrev pub home_of_strings : Option BytesHome → Home
home_of_strings None = no_home
home_of_strings (Some home) = strings home.sizes home.short home.memos

abbrev pub home_of : StoredColumn → Home
home_of (integers c) = home_of_numbers c.home
home_of (texts c) = home_of_strings c.home
home_of (views ts) = tables (row_homes (map (λ t. t.homes) ts))

-- the values of a column, as those of a property of the domain
abbrev pub column_values : Domain → StoredColumn → List Datum
column_values Domain.integer (integers c) = map Datum.integer c.values
column_values Domain.long (integers c) = map Datum.long c.values
column_values Domain.text (texts c) = map Datum.text c.values
column_values Domain.bytes (texts c) = map Datum.bytes c.values
column_values (Domain.relation h) (views ts) = map (λ t. Datum.relation (relation_of t.rows)) ts
column_values _ _ = []

-- row i has the value at place i of each column
abbrev pub row_of_columns : ℕ → List Attribute → List StoredColumn → List Datum
row_of_columns i (a ∷ schema) (c ∷ cols) = slice_index_or (column_values a.domain c) i (integer (pos 0)) ∷ row_of_columns i schema cols
row_of_columns i _ _ = []

abbrev pub rows_of_columns : ℕ → List Attribute → List StoredColumn → List (List Datum)
rows_of_columns n schema cols = map (λ i. row_of_columns i schema cols) (range_with_len 0 n)

-- the table of n rows that the columns are
abbrev pub table_of_columns : ℕ → List Attribute → List StoredColumn → StoredTable
table_of_columns n schema cols = record {
  schema = schema;
  rows = rows_of_columns n schema cols;
  homes = map home_of cols;
}

-- a home has a span for each long value
abbrev pub HasBlocks : Option BytesHome → List (List ℕ) → Type 0
HasBlocks None values = Unit {0}
HasBlocks (Some home) values = length home.memos ≡ length (long_values values)

-- a value of a property of texts
pub record IsTextValue (content : List ℕ) : Type 0 where
  pub is_text : IsText content
  pub short : length content ≤ max_bytes

-- a whole table of the schema
pub record IsTableOf (schema : List Attribute) (t : StoredTable) : Type 0 where
  pub same_schema : t.schema ≡ schema
  pub rows : AreRowsOf t.rows t.schema
  pub homes : HasHomes t

-- n integers that fit
pub record AreNumbersOf (n : ℕ) (Fits : ℤ → Type 0) (c : Numbers) : Type 0 where
  pub count : length c.values ≡ n
  pub fit : All Fits c.values

-- n texts or byte strings that fit, with a span for each long one where they have a home
pub record AreStringsOf (n : ℕ) (Fits : List ℕ → Type 0) (c : Strings) : Type 0 where
  pub count : length c.values ≡ n
  pub fit : All Fits c.values
  pub home : HasBlocks c.home c.values

-- n tables of the schema
pub record AreTablesOf (n : ℕ) (schema : List Attribute) (ts : List StoredTable) : Type 0 where
  pub count : length ts ≡ n
  pub whole : All (IsTableOf schema) ts

-- a column of n values of the domain
abbrev pub IsColumnOf : ℕ → Domain → StoredColumn → Type 0
IsColumnOf n Domain.integer (integers c) = AreNumbersOf n (λ z. FitsSigned w32 z) c
IsColumnOf n Domain.long (integers c) = AreNumbersOf n (λ z. FitsSigned w64 z) c
IsColumnOf n Domain.text (texts c) = AreStringsOf n IsTextValue c
IsColumnOf n Domain.bytes (texts c) = AreStringsOf n (λ content. length content ≤ max_bytes) c
IsColumnOf n (Domain.relation h) (views ts) = AreTablesOf n (attributes_of h) ts
IsColumnOf n _ _ = ⊥

-- the columns of a table of n rows: at most as many as a table has, and one column of n values for each property
pub record AreColumnsOf (n : ℕ) (schema : List Attribute) (cols : List StoredColumn) : Type 0 where
  pub few : n ≤ max_rows
  pub each : AllZip (λ a c. IsColumnOf n a.domain c) schema cols

-- Columns are coded by their parts, so that a proof can tell two of them apart.
abbrev span_code : Coded Span
span_code = code_by (ℕ × ℕ) (coded× coded_ℕ coded_ℕ) (λ s. (s.place, s.len)) (λ p. record { place = p.0; len = p.1 }) (λ _. refl)

abbrev bytes_home_code : Coded BytesHome
bytes_home_code =
    code_by (Span × (Span × List Span)) (coded× span_code (coded× span_code (coded_list span_code)))
    (λ h. (h.sizes, (h.short, h.memos))) (λ p. record { sizes = p.0; short = p.1.0; memos = p.1.1 }) (λ _. refl)

abbrev numbers_code : Coded Numbers
numbers_code =
    code_by (List ℤ × (List ℕ × Option Span)) (coded× (coded_list coded_ℤ) (coded× (coded_list coded_ℕ) (coded_option span_code)))
    (λ c. (c.values, (c.cuts, c.home))) (λ p. record { values = p.0; cuts = p.1.0; home = p.1.1 }) (λ _. refl)

abbrev strings_code : Coded Strings
strings_code =
    code_by (List (List ℕ) × Option BytesHome) (coded× (coded_list (coded_list coded_ℕ)) (coded_option bytes_home_code))
    (λ c. (c.values, c.home)) (λ p. record { values = p.0; home = p.1 }) (λ _. refl)

abbrev parts_of : StoredColumn → Numbers ⊎ (Strings ⊎ List StoredTable)
parts_of (integers c) = inl c
parts_of (texts c) = inr (inl c)
parts_of (views ts) = inr (inr ts)

abbrev of_parts : Numbers ⊎ (Strings ⊎ List StoredTable) → StoredColumn
of_parts (inl c) = integers c
of_parts (inr (inl c)) = texts c
of_parts (inr (inr ts)) = views ts

pub of_parts-parts_of : (c : StoredColumn) → of_parts (parts_of c) ≡ c
of_parts-parts_of (integers c) = refl
of_parts-parts_of (texts c) = refl
of_parts-parts_of (views ts) = refl

abbrev pub tables_code : Coded (List StoredTable)
tables_code = coded_list stored_code

abbrev pub chunks_code : Coded (List (List StoredTable))
chunks_code = coded_list tables_code

abbrev pub column_code : Coded StoredColumn
column_code =
    code_by (Numbers ⊎ (Strings ⊎ List StoredTable)) (coded⊎ numbers_code (coded⊎ strings_code tables_code)) parts_of of_parts of_parts-parts_of

abbrev pub stored_columns_code : Coded (List StoredColumn)
stored_columns_code = coded_list column_code

-- a column of the domain that has these values and this home
pub record IsColumnWith (e : Domain) (values : List Datum) (home : Home) (c : StoredColumn) : Type 0 where
  pub whole : IsColumnOf (length values) e c
  pub holds : column_values e c ≡ values
  pub home_is : home_of c ≡ home

-- one column for each property, with the values and the home that the table has there
pub record AreColumnsIn (t : StoredTable) (cols : List StoredColumn) : Type 0 where
  pub paired : length cols ≡ length t.schema
  pub each : (k : ℕ) → k < length t.schema → IsColumnWith (domain_at t.schema k) (column_of t.rows k) (slice_index_or t.homes k no_home) (slice_index_or cols k no_column)

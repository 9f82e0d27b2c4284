-- Values as plain data: numbers, texts, byte strings and relations.
use Rattle.std.specs.Prelude.{◌≢◌, ℕ, ◌+◌, ◌≤◌, ℤ, pos, List, [], ◌∷◌, length, All, slice_index_or, FitsSigned}
use Rattle.std.specs.Int.{w32, w64}
use Rattle.std.specs.List.{AllZip}
use Rattle.std.specs.Str.{IsUtf8}
use Rattle.mk_value.specs.Limits.{max_bytes, max_rows}
use Rattle.mk_value.specs.Heading.{Domain, Heading, no_attributes, attribute, Attribute}

-- A value; a row of values; the rows of a relation in order. Rows and relations are spelled out one by one: the first, and the rest.
mutual
  pub data Datum : Type 0 where
    integer : ℤ → Datum
    long : ℤ → Datum
    text : List ℕ → Datum
    bytes : List ℕ → Datum
    relation : Relation → Datum

  pub data Tuple : Type 0 where
    no_values : Tuple
    value : Datum → Tuple → Tuple

  pub data Relation : Type 0 where
    no_tuples : Relation
    tuple : Tuple → Relation → Relation

-- the same values and rows as lists, and back
abbrev pub values_of : Tuple → List Datum
values_of no_values = []
values_of (value d rest) = d ∷ values_of rest

abbrev pub tuple_of : List Datum → Tuple
tuple_of [] = no_values
tuple_of (d ∷ rest) = value d (tuple_of rest)

abbrev pub rows_of : Relation → List (List Datum)
rows_of no_tuples = []
rows_of (tuple t rest) = values_of t ∷ rows_of rest

abbrev pub relation_of : List (List Datum) → Relation
relation_of [] = no_tuples
relation_of (row ∷ rest) = tuple (tuple_of row) (relation_of rest)

-- a text is UTF-8 without a zero byte
pub record IsText (content : List ℕ) : Type 0 where
  pub utf8 : IsUtf8 content
  pub no_zero : All (λ b. b ≢ 0) content

-- a value is of a domain: numbers within their width, texts and byte strings within their length,
-- relations within their number of rows, each row with one value for each property
abbrev mutual
  pub IsOf : Datum → Domain → Type 0
  IsOf (integer z) Domain.integer = FitsSigned w32 z
  IsOf (long z) Domain.long = FitsSigned w64 z
  IsOf (text content) Domain.text = IsText content × (length content ≤ max_bytes)
  IsOf (bytes content) Domain.bytes = length content ≤ max_bytes
  IsOf (relation r) (Domain.relation h) = (length (rows_of r) ≤ max_rows) × AreTuplesOf r h
  IsOf _ _ = ⊥

  pub IsTupleOf : Tuple → Heading → Type 0
  IsTupleOf no_values no_attributes = Unit {0}
  IsTupleOf (value d rest) (attribute n e others) = IsOf d e × IsTupleOf rest others
  IsTupleOf _ _ = ⊥

  pub AreTuplesOf : Relation → Heading → Type 0
  AreTuplesOf no_tuples h = Unit {0}
  AreTuplesOf (tuple t rest) h = IsTupleOf t h × AreTuplesOf rest h

-- a row of a schema: one value for each property, each of its domain
abbrev pub IsRowOf : List Datum → List Attribute → Type 0
IsRowOf row schema = AllZip (λ d a. IsOf d a.domain) row schema

-- the rows of a view of a schema: at most as many as a view has, each of the schema
pub record AreRowsOf (rows : List (List Datum)) (schema : List Attribute) : Type 0 where
  pub few : length rows ≤ max_rows
  pub whole : All (λ row. IsRowOf row schema) rows

-- the value at a row and a column, or the number 0 where there is none
abbrev pub cell : List (List Datum) → ℕ → ℕ → Datum
cell rows row column = slice_index_or (slice_index_or rows row []) column (integer (pos 0))

-- the value of a property that was never set
abbrev pub default_of : Domain → Datum
default_of Domain.integer = integer (pos 0)
default_of Domain.long = long (pos 0)
default_of Domain.text = text []
default_of Domain.bytes = bytes []
default_of (Domain.relation h) = relation no_tuples

-- How much a value holds: more than each relation inside it.
abbrev mutual
  pub datum_weight : Datum → ℕ
  datum_weight (integer z) = 0
  datum_weight (long z) = 0
  datum_weight (text content) = 0
  datum_weight (bytes content) = 0
  datum_weight (relation r) = relation_weight r + 2

  pub tuple_weight : Tuple → ℕ
  tuple_weight no_values = 0
  tuple_weight (value d rest) = datum_weight d + 1 + tuple_weight rest

  pub relation_weight : Relation → ℕ
  relation_weight no_tuples = 0
  relation_weight (tuple t rest) = tuple_weight t + 1 + relation_weight rest

abbrev pub row_weight : List Datum → ℕ
row_weight [] = 0
row_weight (d ∷ rest) = datum_weight d + 1 + row_weight rest

abbrev pub rows_weight : List (List Datum) → ℕ
rows_weight [] = 0
rows_weight (row ∷ rest) = row_weight row + 1 + rows_weight rest

-- Literals: values as they are written, and the texts of values and rows.
use Rattle.std.specs.Prelude.{ℕ, List, [], ◌∷◌, ◌++◌}
use Rattle.std.specs.List.{flat_map}
use Rattle.mk_value.specs.Data.{Datum, integer, long, text, bytes, relation, Tuple, no_values, value, Relation, no_tuples, tuple, tuple_of, relation_of}
use Rattle.mk_value.specs.Tokens.{Token, spelling}

-- the tokens of a value: a number, a text or a byte string is one; a view is its rows in braces, joined by commas;
-- a row is its values in parentheses, joined by commas
abbrev mutual
  pub tokens_of : Datum → List Token
  tokens_of (integer z) = Token.number z ∷ []
  tokens_of (long z) = Token.number z ∷ []
  tokens_of (text content) = Token.text content ∷ []
  tokens_of (bytes content) = Token.bytes content ∷ []
  tokens_of (relation rows) = Token.sign 123 ∷ (rows_tokens rows ++ (Token.sign 125 ∷ []))

  pub rows_tokens : Relation → List Token
  rows_tokens no_tuples = []
  rows_tokens (tuple row rest) = row_tokens row ++ more_rows rest

  -- the rows behind the first, each behind a comma
  pub more_rows : Relation → List Token
  more_rows no_tuples = []
  more_rows (tuple row rest) = Token.sign 44 ∷ (row_tokens row ++ more_rows rest)

  pub row_tokens : Tuple → List Token
  row_tokens no_values = Token.sign 40 ∷ Token.sign 41 ∷ []
  row_tokens (value d rest) = Token.sign 40 ∷ (tokens_of d ++ (more_values rest ++ (Token.sign 41 ∷ [])))

  -- the values behind the first, each behind a comma
  pub more_values : Tuple → List Token
  more_values no_values = []
  more_values (value d rest) = Token.sign 44 ∷ (tokens_of d ++ more_values rest)

-- the tokens written one after another, without spaces
abbrev pub spelled : List Token → List ℕ
spelled tokens = flat_map spelling tokens

-- the text of a value, and that of a row
abbrev pub value_text : Datum → List ℕ
value_text d = spelled (tokens_of d)

abbrev pub row_text : List Datum → List ℕ
row_text row = spelled (row_tokens (tuple_of row))

-- the text of a view
abbrev pub rows_text : List (List Datum) → List ℕ
rows_text rows = value_text (relation (relation_of rows))

-- the texts of the values and rows behind the first, each behind a comma
abbrev pub more_values_text : List Datum → List ℕ
more_values_text row = flat_map (λ d. 44 ∷ value_text d) row

abbrev pub more_rows_text : List (List Datum) → List ℕ
more_rows_text rows = flat_map (λ row. 44 ∷ row_text row) rows

-- values and rows joined by commas
abbrev pub values_text : List Datum → List ℕ
values_text [] = []
values_text (d ∷ rest) = value_text d ++ more_values_text rest

abbrev pub joined_rows_text : List (List Datum) → List ℕ
joined_rows_text [] = []
joined_rows_text (row ∷ rest) = row_text row ++ more_rows_text rest

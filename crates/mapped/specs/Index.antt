-- What an index keeps of rows: their keys, each of which one row has.
use Rattle.std.specs.Prelude.{◌≢◌, ◌≤◌, ℕ, List, length, position, Option, refl}
use Rattle.std.specs.Coded.{Coded, code_by, coded_ℕ, coded×}
use Rattle.std.specs.List.{AllPairs}
use Rattle.mk_value.specs.Data.{Datum}
use Rattle.mk_value.specs.DataCode.{rows_code}
use Rattle.mk_value.specs.Limits.{max_rows}
use Rattle.relations.specs.Equality.{same_row}

-- the keys of all rows, in the rows' order, and how many more can be taken without memory
pub record Index : Type 0 where
  pub keys : List (List Datum)
  pub spare : ℕ

abbrev pub index_code : Coded Index
index_code = code_by (List (List Datum) × ℕ) (coded× rows_code coded_ℕ) (λ x. (x.keys, x.spare)) (λ p. record { keys = p.0; spare = p.1 }) (λ _. refl)

-- no two of the rows of a view have one key
pub record AreKeys (keys : List (List Datum)) : Type 0 where
  pub few : length keys ≤ max_rows
  pub distinct : AllPairs (λ a b. a ≢ b) keys

-- the row that has the key
abbrev pub row_of : List Datum → List (List Datum) → Option ℕ
row_of key keys = position (λ known. same_row known key) keys

-- Tables under way: the rows that came, the values of the row that is coming, and how many rows come behind it.
use Rattle.std.specs.Prelude.{ℕ, ◌+◌, ◌<◌, ◌≤◌, List, [], ◌∷◌, ◌++◌, length, drop, slice_index_or, pos, refl}
use Rattle.std.specs.Coded.{Coded, code_by, coded_ℕ, coded×}
use Rattle.std.specs.List.{flat_map}
use Rattle.byteorder.specs.Endian.{little_bytes}
use Rattle.mk_value.specs.Data.{Datum, integer, IsOf}
use Rattle.mk_value.specs.DataCode.{row_code, rows_code}
use Rattle.mk_value.specs.Heading.{Attribute, attributes_code, Domain, heading_of}
use Rattle.mk_value.specs.Tables.{domain_at}
use Rattle.stream_codec.specs.Fields.{Due, row_due, rows_due}
use Rattle.stream_codec.specs.Stream.{spelled_value}

pub record TableProgress : Type 0 where
  pub schema : List Attribute
  pub rows : List (List Datum)
  pub row : List Datum
  pub left : ℕ

abbrev pub progress_code : Coded TableProgress
progress_code =
    code_by (List Attribute × (List (List Datum) × (List Datum × ℕ))) (coded× attributes_code (coded× rows_code (coded× row_code coded_ℕ)))
    (λ t. (t.schema, (t.rows, (t.row, t.left)))) (λ p. record { schema = p.0; rows = p.1.0; row = p.1.1.0; left = p.1.1.1 }) (λ _. refl)

-- the first values of a row of the schema
pub record IsFront (row : List Datum) (schema : List Attribute) : Type 0 where
  pub within : length row ≤ length schema
  pub fit : (k : ℕ) → k < length row → IsOf (slice_index_or row k (integer (pos 0))) (domain_at schema k)

-- what is due of a table from a property of the row that is coming on: where the row is, and behind the value that it waits for
abbrev pub due_from : ℕ → TableProgress → List Due
due_from k t = row_due (heading_of (drop k t.schema)) ++ rows_due t.left (heading_of t.schema)

abbrev pub due_of : TableProgress → List Due
due_of t = due_from (length t.row) t

abbrev pub due_behind : TableProgress → List Due
due_behind t = due_from (length t.row + 1) t

-- the domain of the value that comes next
abbrev pub next_domain : TableProgress → Domain
next_domain t = domain_at t.schema (length t.row)

-- how what came is spelled: the number of all its rows, and those and the values that are there
abbrev pub spelled_row : List Datum → List ℕ
spelled_row row = flat_map spelled_value row

abbrev pub spelled_of : TableProgress → List ℕ
spelled_of t = little_bytes 4 (length t.rows + 1 + t.left) ++ (flat_map spelled_row t.rows ++ spelled_row t.row)

-- the same table after one value more, and after its row
abbrev pub with_next : Datum → TableProgress → TableProgress
with_next d t = record { schema = t.schema; rows = t.rows; row = t.row ++ d ∷ []; left = t.left }

abbrev pub with_row_ended : ℕ → TableProgress → TableProgress
with_row_ended left t = record { schema = t.schema; rows = t.rows ++ t.row ∷ []; row = []; left = left }

-- a table of so many rows of which none came
abbrev pub progress_at_start : List Attribute → ℕ → TableProgress
progress_at_start schema left = record { schema = schema; rows = []; row = []; left = left }

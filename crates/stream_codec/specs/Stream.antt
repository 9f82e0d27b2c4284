-- The stream of named views: their structures and their rows, row by row, in one byte form.
use Rattle.std.specs.Prelude.{◌≡◌, ℕ, List, [], ◌∷◌, ◌++◌, length, All}
use Rattle.std.specs.Int.{w32, w64, cast_unsigned}
use Rattle.std.specs.List.{flat_map}
use Rattle.byteorder.specs.Endian.{little_bytes}
use Rattle.mk_value.specs.Data.{Datum, integer, long, text, bytes, relation, Tuple, no_values, value, Relation, no_tuples, tuple, relation_of, rows_of}
use Rattle.struct_text.specs.Spelling.{spelling}
use Rattle.tables.specs.Tables.{HasNoHomes}
use Rattle.view_store.specs.Views.{AreViews, NamedTable}

-- what each stream begins with
abbrev pub signature : List ℕ
signature = 77 ∷ 75 ∷ 83 ∷ 84 ∷ 1 ∷ 0 ∷ 0 ∷ 0 ∷ []

-- bytes behind their number
abbrev pub counted : List ℕ → List ℕ
counted content = little_bytes 4 (length content) ++ content

-- Numbers have 4 or 8 bytes in two's complement; texts and byte strings stand behind their length, and rows behind their number. The values
-- of a row stand in the order of its properties.
abbrev mutual
  pub spelled_value : Datum → List ℕ
  spelled_value (integer z) = little_bytes 4 (cast_unsigned w32 z)
  spelled_value (long z) = little_bytes 8 (cast_unsigned w64 z)
  spelled_value (text content) = counted content
  spelled_value (bytes content) = counted content
  spelled_value (relation r) = little_bytes 4 (length (rows_of r)) ++ spelled_tuples r

  pub spelled_tuple : Tuple → List ℕ
  spelled_tuple no_values = []
  spelled_tuple (value d rest) = spelled_value d ++ spelled_tuple rest

  pub spelled_tuples : Relation → List ℕ
  spelled_tuples no_tuples = []
  spelled_tuples (tuple t rest) = spelled_tuple t ++ spelled_tuples rest

-- rows behind their number
abbrev pub spelled_rows : List (List Datum) → List ℕ
spelled_rows rows = spelled_value (relation (relation_of rows))

-- a view: its structure text, and its rows
abbrev pub spelled_view : NamedTable → List ℕ
spelled_view v = counted (spelling v.name v.table.schema) ++ spelled_rows v.table.rows

-- the stream of these views
abbrev pub spelled : List NamedTable → List ℕ
spelled views = signature ++ (little_bytes 4 (length views) ++ flat_map spelled_view views)

-- These bytes are the stream of a whole root, which names no place of a file.
pub record IsStream (stream : List ℕ) (views : List NamedTable) : Type 0 where
  pub whole : AreViews views
  pub homeless : All (λ v. HasNoHomes v.table) views
  pub is : stream ≡ spelled views

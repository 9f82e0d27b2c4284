-- Cursors: positions under names, each on a view, on a snapshot or on a watch.
use Rattle.std.specs.Prelude.{◌≡◌, ℕ, zero, suc, ◌+◌, ◌-◌, Bool, true, false, ◌&&◌, ◌||◌, if◌then◌else◌, nat_lt, List, [], ◌∷◌, find, length, slice_index_or, refl, Option, Some, None, Result, Ok, Err}
use Rattle.std.specs.Coded.{Coded, code_by, coded_ℕ, coded_list, coded×}
use Rattle.std.specs.List.{list_any}
use Rattle.std.specs.Option.{is_some, option_map, unwrap_or}
use Rattle.computing.specs.Computed.{Computations, computed_names, is_computed}
use Rattle.eval.specs.Names.{Named}
use Rattle.watches.specs.Watches.{Followed, is_watch, watch_table}
use Rattle.mk_value.specs.Data.{Datum}
use Rattle.mk_value.specs.Literals.{row_text}
use Rattle.mk_value.specs.Names.{same_bytes}
use Rattle.view_store.specs.Views.{NamedTable, table_of}
use Rattle.questions.specs.declared.cursor.Standing.{Standing}
use Rattle.questions.specs.declared.cursor.Standing.TheVariants.{View, Snapshot, Watch}
use Rattle.questions.specs.declared.error.QuestionError.{QuestionError}
use Rattle.questions.specs.declared.error.QuestionError.TheVariants.{NoName, Range}
use Rattle.viewers.specs.Meanings.{Meaning}
use Rattle.questions.specs.Kept.{Kept, Names, is_kept, sources}

-- a cursor: its name, the name of what it stands on, which of the three that is, and its position
pub record Placed : Type 0 where
  pub name : List ℕ
  pub target : List ℕ
  pub standing : Standing
  pub position : ℕ

abbrev pub standing_number : Standing → ℕ
standing_number View = 0
standing_number Snapshot = 1
standing_number Watch = 2

abbrev pub standing_by : ℕ → Standing
standing_by zero = View
standing_by (suc zero) = Snapshot
standing_by (suc (suc n)) = Watch

pub standing_by-number : (s : Standing) → standing_by (standing_number s) ≡ s
standing_by-number View = refl
standing_by-number Snapshot = refl
standing_by-number Watch = refl

-- what a name stands for: a view, where none has it a snapshot, and where none has it a watch, computed or not
abbrev pub standing_of : Names → Computations → List ℕ → Option Standing
standing_of n c name =
    if is_some (table_of n.views name) then Some View
    else (if is_kept n.snapshots name then Some Snapshot else (if is_watch n.watches name || is_computed c name then Some Watch else None))

-- the rows of a view, of the first snapshot and of the first watch of a name; none where there is no such thing
abbrev pub rows_viewed : List NamedTable → List ℕ → List (List Datum)
rows_viewed views name = unwrap_or (option_map (λ t. t.rows) (table_of views name)) []

abbrev pub rows_kept : List Kept → List ℕ → List (List Datum)
rows_kept snapshots name = unwrap_or (option_map (λ (s : Kept). s.table.rows) (find (λ (s : Kept). same_bytes s.name name) snapshots)) []

abbrev pub rows_watched : List NamedTable → List Followed → List ℕ → List (List Datum)
rows_watched views watches name = unwrap_or (option_map (λ t. t.rows) (watch_table views watches name)) []

-- the rows of the first computed watch of a name
unfoldable pub rows_computed : Names → List Meaning → Computations → List ℕ → List (List Datum)
rows_computed n viewers c name =
    unwrap_or (option_map (λ (m : Named). m.table.rows) (find (λ (m : Named). same_bytes m.name name) (computed_names (sources n) viewers c))) []

-- the rows of what a name stands for in this way, as they are now
abbrev pub rows_standing : Names → List Meaning → Computations → Standing → List ℕ → List (List Datum)
rows_standing n viewers c View name = rows_viewed n.views name
rows_standing n viewers c Snapshot name = rows_kept n.snapshots name
rows_standing n viewers c Watch name = if is_watch n.watches name then rows_watched n.views n.watches name else rows_computed n viewers c name

-- the rows of what a cursor stands on
abbrev pub rows_under : Names → List Meaning → Computations → Placed → List (List Datum)
rows_under n viewers c cursor = rows_standing n viewers c cursor.standing cursor.target

-- whether a cursor has the name, and whether one stands on the view, the snapshot or the watch of a name
abbrev pub is_cursor : List Placed → List ℕ → Bool
is_cursor cursors name = list_any (λ (c : Placed). same_bytes c.name name) cursors

abbrev pub same_standing : Standing → Standing → Bool
same_standing View View = true
same_standing Snapshot Snapshot = true
same_standing Watch Watch = true
same_standing _ _ = false

abbrev pub has_cursor_on : List Placed → Standing → List ℕ → Bool
has_cursor_on cursors standing name = list_any (λ (c : Placed). same_standing c.standing standing && same_bytes c.target name) cursors

-- without the first cursor of a name; and with that cursor at another position
abbrev pub without_cursor : List Placed → List ℕ → List Placed
without_cursor [] name = []
without_cursor (c ∷ cursors) name = if same_bytes c.name name then cursors else c ∷ without_cursor cursors name

abbrev pub moved : List Placed → List ℕ → ℕ → List Placed
moved [] name position = []
moved (c ∷ cursors) name position =
    if same_bytes c.name name then record c { position = position } ∷ cursors else c ∷ moved cursors name position

-- what is asked of the first cursor of a name
abbrev pub asked_of : {X : Type 0} → Option Placed → (Placed → Result X QuestionError) → Result X QuestionError
asked_of None asked = Err NoName
asked_of (Some c) asked = asked c

abbrev pub cursor_due : {X : Type 0} → List Placed → List ℕ → (Placed → Result X QuestionError) → Result X QuestionError
cursor_due cursors name asked = asked_of (find (λ (c : Placed). same_bytes c.name name) cursors) asked

-- `next`, `prev` and `row`: one position further or back, and the row at the position, where there is one; else the number of rows is told
abbrev pub next_in : List (List Datum) → ℕ → Result ℕ QuestionError
next_in rows position = if nat_lt position (length rows) then Ok (position + 1) else Err (Range (length rows))

abbrev pub previous_in : List (List Datum) → ℕ → Result ℕ QuestionError
previous_in rows position = if nat_lt 0 position then Ok (position - 1) else Err (Range (length rows))

abbrev pub row_in : List (List Datum) → ℕ → Result (List ℕ) QuestionError
row_in rows position = if nat_lt position (length rows) then Ok (row_text (slice_index_or rows position [])) else Err (Range (length rows))

abbrev pub next_due : Names → List Meaning → Computations → List Placed → List ℕ → Result ℕ QuestionError
next_due n viewers c cursors name = cursor_due cursors name (λ cursor. next_in (rows_under n viewers c cursor) cursor.position)

abbrev pub previous_due : Names → List Meaning → Computations → List Placed → List ℕ → Result ℕ QuestionError
previous_due n viewers c cursors name = cursor_due cursors name (λ cursor. previous_in (rows_under n viewers c cursor) cursor.position)

abbrev pub row_due : Names → List Meaning → Computations → List Placed → List ℕ → Result (List ℕ) QuestionError
row_due n viewers c cursors name = cursor_due cursors name (λ cursor. row_in (rows_under n viewers c cursor) cursor.position)

-- the cursors after one of a name was asked to move
abbrev pub moved_to : List Placed → List ℕ → Result ℕ QuestionError → List Placed
moved_to cursors name (Ok position) = moved cursors name position
moved_to cursors name (Err e) = cursors

-- cursors are coded by their parts, so that a proof can tell two of them apart
abbrev pub standing_code : Coded Standing
standing_code = code_by ℕ coded_ℕ standing_number standing_by standing_by-number

abbrev pub placed_code : Coded Placed
placed_code =
    code_by (List ℕ × (List ℕ × (Standing × ℕ))) (coded× (coded_list coded_ℕ) (coded× (coded_list coded_ℕ) (coded× standing_code coded_ℕ)))
    (λ c. (c.name, (c.target, (c.standing, c.position)))) (λ p. record { name = p.0; target = p.1.0; standing = p.1.1.0; position = p.1.1.1 }) (λ _. refl)

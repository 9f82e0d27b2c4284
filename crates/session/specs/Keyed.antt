-- Lines on a view whose rows are kept by key. What a row or a value does there is a list of edits of the view, one after another.
use Rattle.std.specs.Prelude.{◌≡◌, ◌<◌, ◌≤◌, ℕ, ◌==◌, ◌||◌, if◌then◌else◌, nat_le, List, [], ◌∷◌, ◌++◌, length, slice_index_or, slice_set, Option, Some, None}
use Rattle.cmd_text.specs.declared.refusal.Refusal.{Refusal}
use Rattle.cmd_text.specs.declared.refusal.Refusal.TheVariants.{Limit}
use Rattle.keyed_views.specs.Keyed.{IsInPlace, edits_of}
use Rattle.keyed_views.specs.declared.keyed.KeyedEdit.{KeyedEdit}
use Rattle.keyed_views.specs.declared.keyed.KeyedEdit.TheVariants.{Put, Replace, Change, Move}
use Rattle.live.specs.Placing.{closed_by}
use Rattle.keyed_views.specs.Keeping.{AllBring, AreKept, AreReady, EditsRows, mapped}
use Rattle.keyed_views.specs.Mapped.{MappedView, mapping_of, put_edit, set_edit}
use Rattle.keyed_views.specs.declared.coming.Coming.{Coming}
use Rattle.keyed_views.specs.declared.kept.Kept.{Kept}
use Rattle.keyed_views.specs.declared.mappings.ByKeys.{ByKeys}
use Rattle.mk_value.specs.Data.{Datum, IsRowOf}
use Rattle.mk_value.specs.Limits.{max_rows}
use Rattle.mk_value.specs.Paths.{Route}
use Rattle.mk_value.specs.declared.path.Step.{Step}
use Rattle.row_edits.specs.Edits.{size_by}
use Rattle.row_edits.specs.Events.{count_all}
use Rattle.tables.specs.Rows.{completed}
use Rattle.tables.specs.Tables.{StoredTable, place_of_property}
use Rattle.view_store.specs.Edits.{Edit}
use Rattle.view_store.specs.Refusals.{due, schema_of}
use Rattle.view_store.specs.Views.{NamedTable, edited_views, table_of}
use Rattle.session.specs.Fitting.{all_short}
use Rattle.session.specs.Refusals.{by_rows, by_schema, first_of, literals_refusal, max_copies, place_refusal, unless}
use Rattle.session.specs.Values.{rows_named, schema_named, size_named, values_for}
use Rattle.session.specs.World.{World, with_line}

-- The mapping by whose keys the rows are kept that a route names. An edit inside a row of a view changes no key of the view.
abbrev pub mapping_at : List MappedView → List ℕ → List Step → Option MappedView
mapping_at all view [] = mapping_of all view
mapping_at all view (s ∷ steps) = None

abbrev pub mapping_on : World → Route → Option MappedView
mapping_on w route = mapping_at w.mappings route.name route.steps

-- the same, where this is the mapping of the view
abbrev pub mapping_as : Route → ByKeys → MappedView
mapping_as route m = record { view = route.name; by = m.by; keys = m.keys }

-- the rows of mapped views are kept by key in these views as they were in those
abbrev pub KeepKeys : List MappedView → List NamedTable → List NamedTable → Type 0
KeepKeys mappings old new = (all : List Kept) → mapped all ≡ mappings → AreKept old all → AreKept new all

-- What comes to a view: it edits the rows so that they are kept by key with the row that comes, and the mapping of the view can follow it.
pub record Comes (view : List ℕ) (coming : Coming) (all : List Kept) (old new : List NamedTable) : Type 0 where
  pub row : List Datum
  pub rows : List (List Datum)
  pub edits : EditsRows view row (edits_of coming.edit) rows old new
  pub in_place : IsInPlace coming.edit (length rows)
  pub few : length rows ≤ max_rows
  pub brings : AllBring view rows row coming all
  pub ready : AreReady view coming all

-- the row that literals become, with defaults behind them; and a row where a property was given a value
abbrev pub row_for : List NamedTable → Route → List Datum → List Datum
row_for root route literals = completed (schema_named root route) (values_for (schema_named root route) literals)

abbrev pub row_with : List NamedTable → Route → ℕ → List ℕ → Datum → List Datum
row_with root route row prop d = slice_set (slice_index_or (rows_named root route) row []) (place_of_property (schema_named root route) prop) d

-- what a row does that is put in before a place, and what a row does that was given a value
abbrev pub put_by_key : MappedView → List NamedTable → Route → ℕ → List Datum → KeyedEdit
put_by_key m root route place row = put_edit m.by m.keys row place (rows_named root route)

abbrev pub set_by_key : MappedView → List NamedTable → Route → ℕ → List Datum → KeyedEdit
set_by_key m root route at row = set_edit m.by m.keys row at (rows_named root route)

-- A row is put in, as edits of its view: in the place of the row that goes, or before a place.
abbrev pub put_edits : List Datum → KeyedEdit → List Edit
put_edits row (Put at) = Edit.insert at row 1 ∷ []
put_edits row (Replace at) = Edit.remove at 1 ∷ Edit.insert at row 1 ∷ []
put_edits row e = []

abbrev pub IsPut : KeyedEdit → Type 0
IsPut (Put at) = Unit {0}
IsPut (Replace at) = Unit {0}
IsPut e = ⊥

-- A row that was given a value stands by its key: the other row that has it goes, and the row moves where it does not stand by it.
abbrev pub removal : Option ℕ → List Edit
removal None = []
removal (Some k) = Edit.remove k 1 ∷ []

abbrev pub stand_edits : List Datum → KeyedEdit → List Edit
stand_edits row (Change at other) = removal other
stand_edits row (Move at other to) = removal other ++ (Edit.remove (closed_by other at) 1 ∷ Edit.insert to row 1 ∷ [])
stand_edits row e = []

-- the views after edits of one of them, the first one first
abbrev pub edited_in_turn : List NamedTable → Route → List Edit → List NamedTable
edited_in_turn root route [] = root
edited_in_turn root route (e ∷ edits) = edited_in_turn (edited_views root route e) route edits

-- no edit of these is refused, one after another
abbrev pub AreAllowed : List NamedTable → Route → List Edit → Type 0
AreAllowed root route [] = Unit {0}
AreAllowed root route (e ∷ edits) = (due root route e ≡ None) × AreAllowed (edited_views root route e) route edits

-- a row stands here in the view of a name
pub record IsRowIn (root : List NamedTable) (name : List ℕ) (at : ℕ) (row : List Datum) : Type 0 where
  pub table : StoredTable
  pub found : table_of root name ≡ Some table
  pub is : row ≡ slice_index_or table.rows at []
  pub whole : IsRowOf row table.schema

-- a row was given a value, and where it stood
abbrev pub IsSet : KeyedEdit → Type 0
IsSet (Change at other) = Unit {0}
IsSet (Move at other to) = Unit {0}
IsSet e = ⊥

abbrev pub place_of_set : KeyedEdit → ℕ
place_of_set (Change at other) = at
place_of_set (Move at other to) = at
place_of_set e = 0

-- this edit gives the row its value
pub record Sets (e : KeyedEdit) (edit : Edit) : Type 0 where
  pub prop : List ℕ
  pub value : Datum
  pub is : IsSet e
  pub made : edit ≡ Edit.set (place_of_set e) prop value

-- What comes to a view of which a row is given a value by this edit: it is this row then, and may stand by its key.
pub record StandsBy (row : List Datum) (route : Route) (coming : Coming) (edit : Edit) (all : List Kept) (root : List NamedTable) : Type 0 where
  pub there : IsRowIn (edited_views root route edit) route.name (place_of_set coming.edit) row
  pub stood : (t : StoredTable) × (table_of (edited_views root route edit) route.name ≡ Some t) × (place_of_set coming.edit < length t.rows)
  pub allowed : AreAllowed root route (edit ∷ stand_edits row coming.edit)
  pub comes : Comes route.name coming all root (edited_in_turn root route (edit ∷ stand_edits row coming.edit))

-- the world after a line by key, whose events the watches of the view follow
abbrev pub line_by_key : World → Route → KeyedEdit → List Edit → World
line_by_key w route e edits = with_line w (edited_in_turn w.store.views route edits) route.name (count_all (edits_of e))

-- Of copies of a row that comes by key: one row comes, whatever their number, and none where that is 0.
abbrev pub size_by_key : ℕ → KeyedEdit → ℕ → ℕ
size_by_key copies e size = if copies == 0 then size else size_by (edits_of e) size

abbrev pub put_line : World → Route → ℕ → List Datum → KeyedEdit → World
put_line w route copies row e = if copies == 0 then w else line_by_key w route e (put_edits row e)

-- the world after a property of a row was given a value, and the row stands by its key
abbrev pub set_line : MappedView → World → Route → ℕ → List ℕ → Datum → World
set_line m w route at prop d =
    let row = row_with w.store.views route at prop d in
    let e = set_by_key m w.store.views route at row in line_by_key w route e (Edit.set at prop d ∷ stand_edits row e)

-- `insert` by key: copies of a row of these literals, before a place. The limit of rows is that of the rows after it.
abbrev pub insert_by_key_due : MappedView → List NamedTable → Route → ℕ → ℕ → List Datum → Option Refusal
insert_by_key_due m root route place copies literals =
    first_of (by_schema (schema_of root route) (λ schema. literals_refusal literals schema)
    ∷ by_rows root route
    ∷ place_refusal (size_named root route) place
    ∷ unless (nat_le copies max_copies) Limit
    ∷ unless (all_short literals) Limit
    ∷ unless (copies == 0 || nat_le (size_by (edits_of (put_by_key m root route place (row_for root route literals))) (size_named root route)) max_rows) Limit
    ∷ [])

-- `add` by key: one row
abbrev pub add_by_key_due : MappedView → List NamedTable → Route → List Datum → Option Refusal
add_by_key_due m root route literals = insert_by_key_due m root route (size_named root route) 1 literals

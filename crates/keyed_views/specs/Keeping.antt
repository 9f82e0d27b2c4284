-- What is kept of mapped views, and when that is what their rows are due.
use Rattle.std.specs.Prelude.{◌≡◌, ◌≤◌, ◌+◌, ℕ, true, false, List, length, map, take, All, AllPairs, Some, None}
use Rattle.keyed_views.specs.Keyed.{IsHashed, edits_of}
use Rattle.keyed_views.specs.declared.keyed.KeyedEdit.{KeyedEdit}
use Rattle.keyed_views.specs.declared.keyed.KeyedEdit.TheVariants.{Remove}
use Rattle.mapped.specs.Index.{Index}
use Rattle.mapped.specs.Keys.{AscendByKey, keys_of}
use Rattle.mapped.specs.Refusals.{count_due}
use Rattle.mk_value.specs.Data.{Datum}
use Rattle.mk_value.specs.Heading.{Attribute}
use Rattle.mk_value.specs.Names.{same_bytes}
use Rattle.row_edits.specs.Edits.{edited_by}
use Rattle.row_edits.specs.declared.edit.RowEdit.{RowEdit}
use Rattle.tables.specs.Tables.{StoredTable}
use Rattle.view_store.specs.Views.{NamedTable, table_of}
use Rattle.keyed_views.specs.declared.by.By.{By}
use Rattle.keyed_views.specs.declared.by.By.TheVariants.{Hash, Order}
use Rattle.keyed_views.specs.declared.coming.Coming.{Coming}
use Rattle.keyed_views.specs.declared.kept.Kept.{Kept}
use Rattle.keyed_views.specs.declared.mapping.Mapping.{Mapping}
use Rattle.keyed_views.specs.declared.mapping.Mapping.TheVariants.{Hashed, InOrder}
use Rattle.keyed_views.specs.Mapped.{MappedView}

-- by what rows are kept
abbrev pub by_of : Mapping → By
by_of (Hashed index) = Hash
by_of (InOrder order) = Order

-- what is seen of what is kept
abbrev pub mapped_of : Kept → MappedView
mapped_of k = record { view = k.view; by = by_of k.mapping; keys = k.keys }

abbrev pub mapped : List Kept → List MappedView
mapped all = map mapped_of all

-- an index has the keys of the rows, or the rows ascend by their keys
abbrev pub Keeps : Mapping → ℕ → List (List Datum) → Type 0
Keeps (Hashed index) keys rows = index.keys ≡ keys_of keys rows
Keeps (InOrder order) keys rows = (order ≡ keys) × AscendByKey keys rows

-- a view that has this schema and these rows is kept by key
pub record IsKeptOver (schema : List Attribute) (rows : List (List Datum)) (k : Kept) : Type 0 where
  pub plain : count_due k.keys schema ≡ None
  pub kept : Keeps k.mapping k.keys rows

-- the view is there, and it is kept by key
pub record IsKept (views : List NamedTable) (k : Kept) : Type 0 where
  pub table : StoredTable
  pub there : table_of views k.view ≡ Some table
  pub over : IsKeptOver table.schema table.rows k

abbrev pub AreKept : List NamedTable → List Kept → Type 0
AreKept views all = All (IsKept views) all

-- the view of this name, if it is mapped
abbrev pub AreKeptOver : List ℕ → List Attribute → List (List Datum) → List Kept → Type 0
AreKeptOver view schema rows all = All (λ (k : Kept). same_bytes k.view view ≡ true → IsKeptOver schema rows k) all

-- an index can follow what comes without memory, and its keys are distinct then
abbrev pub CanFollow : KeyedEdit → List Datum → Index → Type 0
CanFollow (Remove at count) key index = at + count ≤ length index.keys
CanFollow edit key index = (2 ≤ index.spare) × IsHashed edit key index.keys

abbrev pub IsReady : Coming → Mapping → Type 0
IsReady c (Hashed index) = CanFollow c.edit c.key index
IsReady c (InOrder order) = Unit {0}

-- the mapping of the view of this name can follow what comes
abbrev pub AreReady : List ℕ → Coming → List Kept → Type 0
AreReady view c all = All (λ (k : Kept). same_bytes k.view view ≡ true → IsReady c k.mapping) all

-- rows that are kept in order ascend by so many values
abbrev pub Ascend : Mapping → ℕ → List (List Datum) → Type 0
Ascend (Hashed index) keys rows = Unit {0}
Ascend (InOrder order) keys rows = AscendByKey keys rows

-- what comes to these rows brings this row: it has the key, and with it they ascend again
pub record Brings (rows : List (List Datum)) (row : List Datum) (c : Coming) (k : Kept) : Type 0 where
  pub key : take k.keys row ≡ c.key
  pub ascend : Ascend k.mapping k.keys (edited_by row (edits_of c.edit) rows)

abbrev pub AllBring : List ℕ → List (List Datum) → List Datum → Coming → List Kept → Type 0
AllBring view rows row c all = All (λ (k : Kept). same_bytes k.view view ≡ true → Brings rows row c k) all

-- the views are others only in the rows of one, which edits with this row made of these rows
pub record EditsRows (view : List ℕ) (row : List Datum) (edits : List RowEdit) (rows : List (List Datum)) (old new : List NamedTable) : Type 0 where
  pub before : StoredTable
  pub after : StoredTable
  pub was : table_of old view ≡ Some before
  pub is : table_of new view ≡ Some after
  pub schema : after.schema ≡ before.schema
  pub rows_before : before.rows ≡ rows
  pub rows_after : after.rows ≡ edited_by row edits rows
  pub others : (name : List ℕ) → same_bytes name view ≡ false → table_of new name ≡ table_of old name

-- a mapping is what it was but for room
pub record Stays (old new : Mapping) : Type 0 where
  pub by : by_of new ≡ by_of old
  pub keeps : (keys : ℕ) (rows : List (List Datum)) → Keeps old keys rows → Keeps new keys rows

-- mappings of different views, not too many
pub record AreWhole (all : List Kept) : Type 0 where
  pub distinct : AllPairs (λ (a b : Kept). same_bytes a.view b.view ≡ false) all
  pub few : length all ≤ 64

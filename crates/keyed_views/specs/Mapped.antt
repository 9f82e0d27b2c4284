-- Views that are kept by key: which they are, and how a row comes to one.
use Rattle.std.specs.Prelude.{ℕ, Bool, if◌then◌else◌, List, [], ◌∷◌, find, slice_index_or, slice_set, take, Option, Some, None}
use Rattle.std.specs.List.{list_any}
use Rattle.keyed_views.specs.Keyed.{other_than, put_by, put_ordered, set_ordered}
use Rattle.keyed_views.specs.declared.keyed.KeyedEdit.{KeyedEdit}
use Rattle.keyed_views.specs.declared.keyed.KeyedEdit.TheVariants.{Change}
use Rattle.mapped.specs.Index.{row_of}
use Rattle.mapped.specs.Keys.{has_key, keys_of, rows_below}
use Rattle.mk_value.specs.Data.{Datum}
use Rattle.mk_value.specs.Heading.{Attribute}
use Rattle.mk_value.specs.Names.{same_bytes}
use Rattle.tables.specs.Tables.{place_of_property}
use Rattle.keyed_views.specs.declared.by.By.{By}
use Rattle.keyed_views.specs.declared.by.By.TheVariants.{Hash, Order}

-- a view that is kept by key: its name, by what it is kept, and how many first values of a row are its key
pub record MappedView : Type 0 where
  pub view : List ℕ
  pub by : By
  pub keys : ℕ

abbrev pub mapping_of : List MappedView → List ℕ → Option MappedView
mapping_of all view = find (λ (m : MappedView). same_bytes m.view view) all

abbrev pub is_mapped : List MappedView → List ℕ → Bool
is_mapped all view = list_any (λ (m : MappedView). same_bytes m.view view) all

abbrev pub without_mapping : List MappedView → List ℕ → List MappedView
without_mapping [] view = []
without_mapping (m ∷ all) view = if same_bytes m.view view then all else m ∷ without_mapping all view

-- of how many values the key is in whose order rows stand; none where they are kept by an index
abbrev pub order_by : By → ℕ → Option ℕ
order_by Hash keys = None
order_by Order keys = Some keys

abbrev pub order_in : Option MappedView → Option ℕ
order_in None = None
order_in (Some m) = order_by m.by m.keys

-- the most mappings
abbrev pub max_mappings : ℕ
max_mappings = 64

-- How a row of a key is put among rows: by an index in the place of the row that has its key, or else before a place; in the order of keys
-- in the place of the row that has its key, or else behind those whose keys are less.
abbrev pub put_key : By → ℕ → List Datum → ℕ → List (List Datum) → KeyedEdit
put_key Hash keys key at rows = put_by (row_of key (keys_of keys rows)) at
put_key Order keys key at rows = let low = rows_below key rows in put_ordered low (has_key key rows low)

abbrev pub put_edit : By → ℕ → List Datum → ℕ → List (List Datum) → KeyedEdit
put_edit by keys row at rows = put_key by keys (take keys row) at rows

-- How the row at a place is given a key: another row that has it goes, and in the order of keys the row moves to its place.
abbrev pub set_key : By → ℕ → List Datum → ℕ → List (List Datum) → KeyedEdit
set_key Hash keys key at rows = Change at (other_than at (row_of key (keys_of keys rows)))
set_key Order keys key at rows = let low = rows_below key rows in set_ordered at low (has_key key rows low)

-- a row once a property of it has another value
abbrev pub row_with : List Attribute → List (List Datum) → ℕ → List ℕ → Datum → List Datum
row_with schema rows at prop d = slice_set (slice_index_or rows at []) (place_of_property schema prop) d

-- the row at a place becomes this row
abbrev pub set_edit : By → ℕ → List Datum → ℕ → List (List Datum) → KeyedEdit
set_edit by keys row at rows = set_key by keys (take keys row) at rows

-- What is due of a stream under way, and how what came is spelled.
use Rattle.std.specs.Prelude.{◌≡◌, ℕ, suc, ◌+◌, ◌<◌, ◌≤◌, List, [], ◌∷◌, ◌++◌, length, reverse, All, None}
use Rattle.std.specs.List.{flat_map}
use Rattle.byteorder.specs.Endian.{little_bytes}
use Rattle.mk_value.specs.Heading.{heading_of}
use Rattle.mk_value.specs.Limits.{max_structure, max_views}
use Rattle.struct_text.specs.Spelling.{spelling}
use Rattle.tables.specs.Tables.{HasNoHomes}
use Rattle.view_store.specs.Views.{NamedTable, table_of, view_names}
use Rattle.stream_codec.specs.Fields.{all_due, Due, field_len, row_count, structure, view_count, views_due}
use Rattle.stream_codec.specs.Steps.{Leads}
use Rattle.stream_codec.specs.Stream.{counted, signature, spelled_view}
use Rattle.stream_codec.specs.ViewProgress.{due_of_view, IsPartialView, schema_of_view, spelled_of_view}
use Rattle.stream_codec.specs.declared.stage.Stage.{Stage}
use Rattle.stream_codec.specs.declared.stage.Stage.TheVariants.{Opening, ViewCount, Views, Structure, RowCount, Rows}

-- the names of views, the last first
abbrev pub names_before : List NamedTable → List (List ℕ)
names_before views = reverse (view_names views)

-- what is due where these views came whole
abbrev pub due_in : List NamedTable → Stage → List Due
due_in views Opening = all_due
due_in views ViewCount = view_count ∷ []
due_in views (Views left) = views_due left (names_before views)
due_in views (Structure len left) = structure len left (names_before views) ∷ []
due_in views (RowCount name schema left) = row_count (heading_of schema) ∷ views_due left (name ∷ names_before views)
due_in views (Rows view left) = due_of_view view ++ views_due left (view.name ∷ names_before views)

-- the opening, the number of all views, and those that came whole
abbrev pub spelled_before : ℕ → List NamedTable → List ℕ
spelled_before count views = signature ++ (little_bytes 4 count ++ flat_map spelled_view views)

abbrev pub spelled_in : List NamedTable → Stage → List ℕ
spelled_in views Opening = []
spelled_in views ViewCount = signature
spelled_in views (Views left) = spelled_before (length views + left) views
spelled_in views (Structure len left) = spelled_before (length views + suc left) views ++ little_bytes 4 len
spelled_in views (RowCount name schema left) = spelled_before (length views + suc left) views ++ counted (spelling name schema)
spelled_in views (Rows view left) = spelled_before (length views + suc left) views ++ spelled_of_view view

-- a whole stage, whatever views came
abbrev pub IsStage : Stage → Type 0
IsStage (Structure len left) = (0 < len) × (len ≤ max_structure)
IsStage (RowCount name schema left) = length (spelling name schema) ≤ max_structure
IsStage (Rows view left) =
    IsPartialView view × (length view.table.row < length view.table.schema) × (length (spelling view.name (schema_of_view view)) ≤ max_structure)
IsStage _ = Unit {0}

-- a view of a name comes behind these views, and so many behind it
pub record IsNewView (views : List NamedTable) (name : List ℕ) (left : ℕ) : Type 0 where
  pub few : length views + suc left ≤ max_views
  pub new : table_of views name ≡ None

abbrev pub Follows : List NamedTable → Stage → Type 0
Follows views Opening = views ≡ []
Follows views ViewCount = views ≡ []
Follows views (Views left) = length views + left ≤ max_views
Follows views (Structure len left) = length views + suc left ≤ max_views
Follows views (RowCount name schema left) = IsNewView views name left
Follows views (Rows view left) = IsNewView views view.name left

-- a stage after these views, which have no homes
pub record IsLoading (views : List NamedTable) (stage : Stage) : Type 0 where
  pub whole : IsStage stage
  pub follows : Follows views stage
  pub homeless : All (λ v. HasNoHomes v.table) views

-- the first field that is due has so many bytes, at least one
abbrev pub IsNextLen : List Due → ℕ → Type 0
IsNextLen [] len = ⊥
IsNextLen (d ∷ due) len = (len ≡ field_len d) × (0 < len)

-- from these views and this stage to those over a field
pub record Passes (views : List NamedTable) (stage : Stage) (field : List ℕ) (new_views : List NamedTable) (new : Stage) : Type 0 where
  pub leads : Leads (due_in views stage) field (due_in new_views new)
  pub spells : spelled_in new_views new ≡ spelled_in views stage ++ field
  pub whole : IsLoading new_views new

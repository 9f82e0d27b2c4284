-- A stage in which rows come, and a field that is taken in place.
use Rattle.std.specs.Prelude.{◌≡◌, ◌↔◌, ℕ, ◌≤◌, ◌<◌, Bool, IsTrue, List, [], ◌∷◌, ◌++◌, length}
use Rattle.mk_value.specs.Limits.{max_structure}
use Rattle.struct_text.specs.Spelling.{spelling}
use Rattle.tables.specs.Tables.{HasNoHomes, StoredTable}
use Rattle.view_store.specs.Views.{NamedTable}
use Rattle.stream_codec.specs.declared.error.LoadError.{LoadError}
use Rattle.stream_codec.specs.declared.stage.Stage.{Stage}
use Rattle.stream_codec.specs.declared.stage.Stage.TheVariants.{Views, Rows}
use Rattle.stream_codec.specs.Settling.{IsEnded, IsSameView}
use Rattle.stream_codec.specs.Stages.{IsNewView}
use Rattle.stream_codec.specs.Steps.{Refuses}
use Rattle.stream_codec.specs.ViewProgress.{due_of_view, IsPartialView, next_len, schema_of_view, Takes}

-- rows come
abbrev pub IsRows : Stage → Type 0
IsRows (Rows view left) = Unit {0}
IsRows _ = ⊥

-- the next field of the rows has so many bytes
abbrev pub HasNextLen : Stage → ℕ → Type 0
HasNextLen (Rows view left) len = len ≡ next_len view
HasNextLen _ len = ⊥

-- the field was taken in place, and the row is whole then or not
abbrev pub TakesInPlace : Stage → List ℕ → Stage → Bool → Type 0
TakesInPlace (Rows old left) field (Rows new behind) whole =
    Takes old field new × (behind ≡ left) × (IsTrue whole ↔ (length new.table.schema ≤ length new.table.row))
TakesInPlace _ field _ whole = ⊥

-- it was refused
abbrev pub RefusesInPlace : Stage → List ℕ → ℕ → LoadError → Type 0
RefusesInPlace (Rows view left) field place e = Refuses (due_of_view view) field place e
RefusesInPlace _ field place e = ⊥

-- a row of a view may end that comes behind these views
abbrev pub MayEndRow : List NamedTable → Stage → Type 0
MayEndRow views (Rows view left) =
    IsPartialView view × IsNewView views view.name left × (length (spelling view.name (schema_of_view view)) ≤ max_structure)
MayEndRow views _ = ⊥

-- a view that ended was put behind these views
pub record PutsView (views : List NamedTable) (name : List ℕ) (t : StoredTable) (all : List NamedTable) : Type 0 where
  pub homeless : HasNoHomes t
  pub put : all ≡ views ++ record { name = name; table = t } ∷ []

-- after the row that ended another one comes, or the view ended too
abbrev pub EndsRow : List NamedTable → Stage → List NamedTable → Stage → Type 0
EndsRow views (Rows old left) all (Rows new behind) =
    IsSameView old new × (length new.table.row < length new.table.schema) × (behind ≡ left) × (all ≡ views)
EndsRow views (Rows old left) all (Views behind) =
    (name : List ℕ) × (t : StoredTable) × IsEnded old name t.schema t.rows × PutsView views name t all × (behind ≡ left)
EndsRow views _ all _ = ⊥

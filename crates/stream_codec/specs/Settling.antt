-- A view under way after the rows and tables of it that are whole were put away.
use Rattle.std.specs.Prelude.{◌≡◌, ◌<◌, ℕ, List, [], ◌++◌, length}
use Rattle.mk_value.specs.Data.{Datum}
use Rattle.mk_value.specs.Heading.{Attribute}
use Rattle.struct_text.specs.Spelling.{spelling}
use Rattle.stream_codec.specs.Stream.{counted, spelled_rows}
use Rattle.stream_codec.specs.ViewProgress.{due_of_view, IsPartialView, schema_of_view, spelled_of_view}
use Rattle.tables.specs.Tables.{HasNoHomes}
use Rattle.stream_codec.specs.declared.partial_view.PartialView.{PartialView}
use Rattle.stream_codec.specs.declared.partial_view.Settled.{Settled}
use Rattle.stream_codec.specs.declared.partial_view.Settled.TheVariants.{UnderWay, Whole}

-- another form of the same: what came is spelled so, and the same is due
pub record IsSameView (old new : PartialView) : Type 0 where
  pub due : due_of_view new ≡ due_of_view old
  pub spells : spelled_of_view new ≡ spelled_of_view old
  pub whole : IsPartialView new
  pub named : new.name ≡ old.name
  pub same_schema : schema_of_view new ≡ schema_of_view old

-- nothing more is due
pub record IsEnded (old : PartialView) (name : List ℕ) (schema : List Attribute) (rows : List (List Datum)) : Type 0 where
  pub due : due_of_view old ≡ []
  pub spells : counted (spelling name schema) ++ spelled_rows rows ≡ spelled_of_view old
  pub named : name ≡ old.name
  pub same_schema : schema ≡ schema_of_view old

abbrev pub Settles : PartialView → Settled → Type 0
Settles old (UnderWay new) = IsSameView old new × (length new.table.row < length new.table.schema)
Settles old (Whole name table) = IsEnded old name table.schema table.rows × HasNoHomes table

-- What the parts of a store mean.
use Rattle.std.specs.Prelude.{ℕ, List, Option, None, Some}
use Rattle.std.specs.Option.{option_map}
use Rattle.commit_marks.specs.declared.mark.Mark.{Mark}
use Rattle.view_store.specs.Views.{NamedTable}
use Rattle.recovery.specs.declared.kept.Kept.{Kept}
use Rattle.recovery.specs.Keeping.{commit_in}
use Rattle.storage.specs.declared.mode.Mode.{Mode}
use Rattle.storage.specs.Stored.{Stored}

-- the views that are edited: those that an edit made, or those of the commit
abbrev pub views_now : List NamedTable → Option (List NamedTable) → List NamedTable
views_now kept None = kept
views_now kept (Some edited) = edited

abbrev pub stored_of : Kept → Option (List NamedTable) → Option ℕ → Option Kept → ℕ → Option Mark → Mode → ℕ → Stored
stored_of kept edited before attempted slot other mode cap = record {
  views = views_now kept.views edited;
  kept = commit_in kept;
  before = before;
  attempted = option_map commit_in attempted;
  slot = slot;
  other = other;
  mode = mode;
  cap = cap;
}

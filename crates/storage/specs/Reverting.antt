-- What bringing back the commit before gives, and why it is refused.
use Rattle.std.specs.Prelude.{◌≡◌, ℕ, List, map, None}
use Rattle.recovery.specs.Commits.{Commit}
use Rattle.recovery.specs.Refusals.{IsBefore, broken, whole}
use Rattle.recovery.specs.declared.error.OpenError.{OpenError}
use Rattle.recovery.specs.declared.error.OpenError.TheVariants as open_error
use Rattle.tables.specs.Tables.{StoredTable, table_without_homes}
use Rattle.view_store.specs.Views.{NamedTable}
use Rattle.storage.specs.declared.error.RevertError.{RevertError}
use Rattle.storage.specs.declared.error.RevertError.TheVariants.{NoBefore, Damaged, Failed, Memory}
use Rattle.storage.specs.Stored.{Stored, with_views}

-- the same table, where no column has a home
abbrev pub without_homes : StoredTable → StoredTable
without_homes t = table_without_homes t.schema t.rows

abbrev pub views_without_homes : List NamedTable → List NamedTable
views_without_homes views = map (λ v. record { name = v.name; table = without_homes v.table }) views

-- The views of a commit are those that are edited, without any home. Where the bytes are known it is the commit before.
pub record Reverts (known : Type 0) (image : List ℕ) (old new : Stored) (number : ℕ) : Type 0 where
  pub older : Commit
  pub before : known → IsBefore image (whole older)
  pub number_is : number ≡ older.number
  pub views : new ≡ with_views old (views_without_homes older.views)

-- why it is refused: there is no commit before, or a place that is named is why it is broken
abbrev pub NamesRefusal : Stored → List ℕ → RevertError → Type 0
NamesRefusal s image NoBefore = s.before ≡ None
NamesRefusal s image (Damaged place) = IsBefore image (broken place)
NamesRefusal s image _ = Unit {0}

-- Why the commit before is not brought back, by why it is not read. A file under whose marks it is read is a store.
abbrev pub cause_of_older : OpenError → RevertError
cause_of_older open_error.NotAStore = Damaged 0
cause_of_older (open_error.Damaged place) = Damaged place
cause_of_older open_error.Failed = Failed
cause_of_older open_error.Memory = Memory

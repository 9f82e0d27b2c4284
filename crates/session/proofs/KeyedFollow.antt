-- What comes to a view that is kept by key, as its watches follow it.
use Rattle.std.proofs.Common.{◌≡◌, ℕ, ◌≤◌, List, length, Option, Some, IsSome, refl, ap, sym, subst, ◌∙◌}
use Rattle.keyed_views.specs.Keyed.{IsInPlace, edits_of, home_of}
use Rattle.keyed_views.specs.declared.keyed.KeyedEdit.{KeyedEdit}
use Rattle.watches.specs.Keeping.{ChangesRows}
use Rattle.keyed_views.specs.declared.coming.Coming.{Coming}
use Rattle.keyed_views.specs.declared.kept.Kept.{Kept}
use Rattle.mk_value.specs.Data.{Datum}
use Rattle.mk_value.specs.Limits.{max_rows}
use Rattle.row_edits.specs.Edits.{edited_by}
use Rattle.row_edits.specs.Lines.{IsLine}
use Rattle.tables.specs.Tables.{StoredTable}
use Rattle.view_store.specs.Views.{NamedTable, table_of}
use Rattle.session.specs.Keyed.{Comes}

some_is : {X : Type 0} (x y : X) → Some x ≡ Some y → x ≡ y
some_is x y e = cc

some_there : {X : Type 0} (o : Option X) (x : X) → o ≡ Some x → IsSome o
some_there o x e = subst IsSome (sym e) refl

module _ (name : List ℕ) (coming : Coming) (all : List Kept) (old new : List NamedTable) (c : Comes name coming all old new) where
  pub comes_was : IsSome (table_of old name)
  comes_was = some_there (table_of old name) c.edits.before c.edits.was

  pub comes_is : IsSome (table_of new name)
  comes_is = some_there (table_of new name) c.edits.after c.edits.is

  before_is : (before : StoredTable) → table_of old name ≡ Some before → c.edits.before ≡ before
  before_is before was = some_is c.edits.before before (sym c.edits.was ∙ was)

  after_is : (after : StoredTable) → table_of new name ≡ Some after → c.edits.after ≡ after
  after_is after is = some_is c.edits.after after (sym c.edits.is ∙ is)

  pub comes_schema : (before after : StoredTable) → table_of old name ≡ Some before → table_of new name ≡ Some after → after.schema ≡ before.schema
  comes_schema before after was is =
      ap (λ (t : StoredTable). t.schema) (sym (after_is after is)) ∙ c.edits.schema ∙ ap (λ (t : StoredTable). t.schema) (before_is before was)

  pub comes_changes : (before after : StoredTable) → table_of old name ≡ Some before → table_of new name ≡ Some after → ChangesRows name before.schema before.rows after.rows old new
  comes_changes before after was is = record {
    old_table = before;
    new_table = after;
    was = was;
    is = is;
    schema_before = refl;
    schema_after = comes_schema before after was is;
    rows_before = refl;
    rows_after = refl;
    others = c.edits.others;
  }

  pub comes_line : ((e : KeyedEdit) (row : List Datum) (rows : List (List Datum)) → length rows ≤ max_rows → IsInPlace e (length rows) → IsLine (edits_of e) (home_of e) rows (edited_by row (edits_of e) rows))
      → (before after : StoredTable) → table_of old name ≡ Some before → table_of new name ≡ Some after → IsLine (edits_of coming.edit) (home_of coming.edit) before.rows after.rows
  comes_line law before after was is =
      subst (λ rows. IsLine (edits_of coming.edit) (home_of coming.edit) rows after.rows) (sym c.edits.rows_before ∙ ap (λ (t : StoredTable). t.rows) (before_is before was))
      (subst (λ rows. IsLine (edits_of coming.edit) (home_of coming.edit) c.rows rows) (sym c.edits.rows_after ∙ ap (λ (t : StoredTable). t.rows) (after_is after is))
      (law coming.edit c.row c.rows c.few c.in_place))

-- What is done to what is kept of views, one after another. No public clause names these.
use Rattle.std.specs.Prelude.{◌≡◌, ◌⊎◌, ◌<◌, ◌≤◌, ◌-◌, ℕ, true, false, pos, List, [], ◌∷◌, ◌++◌, length, slice_index, slice_index_or, All, Contains, Option, Some, None}
use Rattle.std.specs.Option.{ForSome}
use Rattle.live_counts.specs.Counting.{AreCounts, AreDue, run_end}
use Rattle.live_counts.specs.States.{CountsState}
use Rattle.mk_value.specs.Data.{Datum, integer}
use Rattle.mk_value.specs.Heading.{Attribute}
use Rattle.mk_value.specs.Names.{same_bytes}
use Rattle.relations.specs.Columns.{values_at}
use Rattle.row_edits.specs.declared.edit.RowEdit.{RowEdit}
use Rattle.row_edits.specs.declared.event.Event.{Event}
use Rattle.kept_counts.specs.Keeping.{Counted, HasNoted, IsCountedOver, has_place, max_kept, single, what_kept}

-- what is kept has become something else, one after another
pub record AreEach (R : Counted → Counted → Type 0) (old new : List Counted) : Type 0 where
  pub long : length new ≡ length old
  pub each : (k : ℕ) (d : Counted) → k < length old → R (slice_index_or old k d) (slice_index_or new k d)

-- where the view has the name, an edit of its rows is noted, or nothing is kept any more
pub record Notes (view : List ℕ) (schema : List Attribute) (rows : List (List Datum)) (edit : RowEdit) (old new : Counted) : Type 0 where
  pub of : new.view ≡ old.view
  pub noted : same_bytes old.view view ≡ true → ForSome new.kept (HasNoted schema rows edit)
  pub others : same_bytes old.view view ≡ false → new ≡ old

-- where the view has the name, nothing is kept any more
pub record Forgets (view : List ℕ) (old new : Counted) : Type 0 where
  pub of : new.view ≡ old.view
  pub gone : same_bytes old.view view ≡ true → new.kept ≡ None
  pub others : same_bytes old.view view ≡ false → new ≡ old

-- where the view has the name, what is kept is that of these rows now
pub record Follows (view : List ℕ) (schema : List Attribute) (rows : List (List Datum)) (old new : Counted) : Type 0 where
  pub of : new.view ≡ old.view
  pub over : same_bytes old.view view ≡ true → IsCountedOver schema rows new
  pub others : same_bytes old.view view ≡ false → new ≡ old

-- and what was kept still is
pub record FollowsOn (view : List ℕ) (schema : List Attribute) (rows : List (List Datum)) (old new : Counted) : Type 0 where
  pub follows : Follows view schema rows old new
  pub stays : what_kept new ≡ what_kept old

-- counts can follow the edit that they noted, which made these rows
pub record CanFollow (schema : List Attribute) (rows : List (List Datum)) (edit : RowEdit) (counts : CountsState) : Type 0 where
  pub event : Event
  pub one : single edit ≡ Some event
  pub due : AreDue schema counts event rows
  pub noted : counts.noted ≡ Some event

-- a run of equal keys as a row: the values of its first row in these columns, and how long it is
abbrev pub counted_at : List ℕ → List (List Datum) → CountsState → ℕ → List Datum
counted_at columns rows counts i =
    values_at columns (slice_index_or rows (slice_index counts.kept (slice_index counts.starts i)) [])
    ++ integer (pos (run_end counts i - slice_index counts.starts i)) ∷ []

-- one is put in the place of one that keeps nothing, or behind the others; or it is not, where there is no place
pub record IsPut (old : List Counted) (entry : Counted) (new : List Counted) : Type 0 where
  pub from : All (λ (e : Counted). (e ≡ entry) ⊎ Contains old e) new
  pub there : has_place old ≡ true → Contains new entry
  pub few : length old ≤ max_kept → length new ≤ max_kept

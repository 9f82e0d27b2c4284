-- Where the row that comes with a keyed edit stands after it.
use Rattle.std.proofs.Common.{◌≡◌, ◌≢◌, ℕ, suc, ◌+◌, ◌<◌, ◌≤◌, true, List, [], ◌∷◌, ◌++◌, length, get_or, set, take, drop, Option, Some, None, refl, ap, sym, subst, ◌∙◌, arith, inl, inr}
use Rattle.std.specs.List.{insert, remove}
use Rattle.std.proofs.lemmas.Bool.{cases_lt}
use Rattle.std.proofs.lemmas.List.{get_or-set_same, length-set}
use Rattle.std.proofs.lemmas.List.Edits.{get_or-insert_at, length-insert}
use Rattle.mk_value.specs.Data.{Datum}
use Rattle.mk_value.specs.Limits.{max_rows}
use Rattle.live.specs.Placing.{closed, closed_by}
use Rattle.live.proofs.Picks.{closed_above, closed_below}
use Rattle.row_edits.specs.declared.edit.RowEdit.{RowEdit}
use Rattle.row_edits.specs.declared.edit.RowEdit.TheVariants as edit
use Rattle.row_edits.specs.Edits.{AreInRange, bring, edited_by, size_by}
use Rattle.row_edits.proofs.Editing.{length_edited_by}
use Rattle.keyed_views.specs.Keyed.{IsAnother, IsInPlace, edits_of, gone, home_of, size_without}
use Rattle.keyed_views.specs.declared.keyed.KeyedEdit.{KeyedEdit}
use Rattle.keyed_views.specs.declared.keyed.KeyedEdit.TheVariants.{Put, Replace, Change, Move, Remove}
use Rattle.keyed_views.proofs.Hashing.{apart_there, set_apart}

closed_in : (other : Option ℕ) (at size : ℕ) → at < size → IsAnother other at size → closed_by other at < size_without other size
closed_in None at size p q = p
closed_in (Some k) at size p q =
    let lt = q.0 in
    let ne : k ≢ at = q.1 in
    elim (cases_lt at k) [
      | inl low ↦ let c = closed_below k at low in omega arith
      | inr high ↦ let c = closed_above k at (omega arith) in omega arith
    ]

gone_range : (other : Option ℕ) (at size : ℕ) → IsAnother other at size → AreInRange (gone other) size
gone_range None at size q = tt
gone_range (Some k) at size q = (let lt = q.0 in omega arith, tt)

gone_size : (other : Option ℕ) (size : ℕ) → size_by (gone other) size ≡ size_without other size
gone_size None size = refl
gone_size (Some k) size = refl

range_joined : (es fs : List RowEdit) (size : ℕ) → AreInRange es size → AreInRange fs (size_by es size) → AreInRange (es ++ fs) size
range_joined [] fs size h g = g
range_joined (e ∷ es) fs size h g = (h.0, range_joined es fs _ h.1 g)

pub keyed_range : (e : KeyedEdit) (size : ℕ) → size ≤ max_rows → IsInPlace e size → AreInRange (edits_of e) size
keyed_range (Put at) size few h = ((h.0, (let f = h.1 in omega arith)), tt)
keyed_range (Replace at) size few h = (omega arith, ((omega arith, omega arith), tt))
keyed_range (Change at other) size few h = (h.0, gone_range other at size h.1)
keyed_range (Move at other to) size few h =
    let left = gone_size other size in
    let c = closed_in other at size h.0 h.1 in
    let t = h.2 in
    let small : size_without other size ≤ size = smaller other size in
    (h.0, range_joined (gone other) (edit.Remove (closed_by other at) 1 ∷ edit.Insert to 1 ∷ []) size (gone_range other at size h.1) (omega arith, ((omega arith, omega arith), tt)))
  where
    smaller : (other : Option ℕ) (size : ℕ) → size_without other size ≤ size
    smaller None size = omega arith
    smaller (Some k) size = omega arith
keyed_range (Remove at count) size few h = (h, tt)

-- the row stands at its home
edited_joined : (row : List Datum) (es fs : List RowEdit) (rows : List (List Datum)) → edited_by row (es ++ fs) rows ≡ edited_by row fs (edited_by row es rows)
edited_joined row [] fs rows = refl
edited_joined row (e ∷ es) fs rows = edited_joined row es fs _

at_home : (row : List Datum) (rows : List (List Datum)) (to : ℕ) → to ≤ length rows → (to < length (insert rows to row)) × (get_or (insert rows to row) to [] ≡ row)
at_home row rows to p = let n = length-insert rows to row p in (omega arith, get_or-insert_at rows to row [] p)

changed_home : (row : List Datum) (rows : List (List Datum)) (at : ℕ) → at < length rows → (at < length (set rows at row)) × (get_or (set rows at row) at [] ≡ row)
changed_home row rows at p = let n = length-set rows at row in (omega arith, get_or-set_same rows at row [] p)

pub keyed_home : (e : KeyedEdit) (row : List Datum) (rows : List (List Datum)) → IsInPlace e (length rows) → bring (edits_of e) ≡ true
    → (home_of e < length (edited_by row (edits_of e) rows)) × (get_or (edited_by row (edits_of e) rows) (home_of e) [] ≡ row)
keyed_home (Put at) row rows h b = at_home row rows at h.0
keyed_home (Replace at) row rows h b =
    let long = length_edited_by row (edit.Remove at 1 ∷ []) rows (omega arith, tt) in
    at_home row (edited_by row (edit.Remove at 1 ∷ []) rows) at (omega arith)
keyed_home (Change at None) row rows h b = changed_home row rows at h.0
keyed_home (Change at (Some k)) row rows h b =
    let lt = h.1.0 in
    let ne = h.1.1 in
    let is : take k (set rows at row) ++ drop (k + 1) (set rows at row) ≡ set (remove rows k) (closed k at) row =
    ap (λ n. take k (set rows at row) ++ drop n (set rows at row)) (let f : k + 1 ≡ suc k = omega arith in f) ∙ sym (set_apart rows row at k h.0 lt ne) in
    subst (λ rs. (closed k at < length rs) × (get_or rs (closed k at) [] ≡ row)) (sym is) (changed_home row (remove rows k) (closed k at) (apart_there rows row at k h.0 lt ne))
keyed_home (Move at other to) row rows h b =
    let changed : List (List Datum) = set rows at row in
    let size = length-set rows at row in
    let left : List (List Datum) = edited_by row (gone other) changed in
    let one : length left ≡ size_without other (length rows) = length_edited_by row (gone other) changed (gone_range other at (length changed) (subst (IsAnother other at) (sym size) h.1)) ∙ gone_size other (length changed) ∙ ap (size_without other) size in
    let c = closed_in other at (length rows) h.0 h.1 in
    let two = length_edited_by row (edit.Remove (closed_by other at) 1 ∷ []) left (omega arith, tt) in
    let t = h.2 in
    subst (λ rs. (to < length rs) × (get_or rs to [] ≡ row)) (sym (edited_joined row (gone other) (edit.Remove (closed_by other at) 1 ∷ edit.Insert to 1 ∷ []) changed))
    (at_home row (edited_by row (edit.Remove (closed_by other at) 1 ∷ []) left) to (omega arith))
keyed_home (Remove at count) row rows h b = cc

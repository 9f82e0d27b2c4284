-- The watches of views stay whole: each view is listed once, and there are not too many watches.
use Rattle.std.proofs.Common.{◌≡◌, ℕ, ◌+◌, ◌<◌, ◌≤◌, Bool, true, false, cond, None, List, [], ◌∷◌, ◌++◌, length, get_or, set, map, refl, ap, sym, subst, ◌∙◌, arith, inl, inr}
use Rattle.std.specs.Prelude.{Result, Ok, Err}
use Rattle.std.specs.List.{All, AllPairs, remove, sum, sum_by}
use Rattle.std.proofs.lemmas.Bool.{cases_lt}
use Rattle.std.proofs.lemmas.List.{get_or-map, length-map, map-set, map_push, same_lists, set-get_or}
use Rattle.std.proofs.lemmas.List.Edits.{get_or-remove_above, get_or-remove_below, length-remove}
use Rattle.std.proofs.lemmas.List.Folds.{fold-map}
use Rattle.std.proofs.lemmas.List.Quantifiers.{all_pairs_push, all_pairs_remove}
use Rattle.std.proofs.lemmas.List.Sums.{sum-map, sum_by-remove, sum_by-set, sum_by_push}
use Rattle.mk_value.specs.Names.{same_bytes}
use Rattle.mk_value.specs.Data.{Datum}
use Rattle.mk_value.specs.Heading.{Attribute}
use Rattle.view_store.specs.Views.{NamedTable, table_of}
use Rattle.view_store.proofs.Roots.{same_name}
use Rattle.live.specs.Putting.{AnswersPut}
use Rattle.live.specs.declared.error.WatchError.{WatchError}
use Rattle.live.specs.declared.op.WatchOp.{WatchOp}
use Rattle.watches.specs.Lines.{raised_by, refusal_of, watch_due}
use Rattle.row_edits.specs.declared.edit.RowEdit.{RowEdit}
use Rattle.watches.specs.Groups.{AreEach, AreWhole, Follows, Forgets, Notes, Stays}
use Rattle.watches.specs.Keeping.{AreKept, AreKeptBut, ChangesRows, HaveNoted, IsKept, IsKeptBut, IsKeptOver, Kept, followed, followed_of}
use Rattle.watches.specs.Watches.{Followed, Shown, count, followed_by, is_watched, raised}
use Rattle.watches.proofs.Finding.{map_remove}
use Rattle.watches.proofs.Holding.{kept_along, not_watched}

abbrev pub view_of : Kept → List ℕ
view_of k = k.view

-- how many watches a view has
abbrev pub size_of : Kept → ℕ
size_of k = length (followed_of k).watches

pub count_is : (all : List Kept) → count (followed all) ≡ sum_by size_of all
count_is all = fold-map (λ (n : ℕ) (f : Followed). n + length f.watches) followed_of 0 all

pub whole_push : (all : List Kept) (k : Kept) (n : ℕ) → AreWhole all → is_watched (followed all) k.view ≡ false → count (followed all) < 64 → size_of k ≡ 1 → AreWhole (all ++ k ∷ [])
whole_push all k n h none few one =
    let apart = not_watched all k.view none in
    let long = length-map all view_of in
    let before = count_is all in
    let after = count_is (all ++ k ∷ []) in
    let sum = sum_by_push size_of all k in
    record {
      distinct =
          subst (AllPairs (λ (a b : List ℕ). same_bytes a b ≡ false)) (sym (map_push view_of all k))
          (all_pairs_push (λ (a b : List ℕ). same_bytes a b ≡ false) (map view_of all) k.view h.distinct
          (λ i d p. ap (λ v. same_bytes v k.view) (get_or-map view_of all i k d (omega arith)) ∙ apart i k (omega arith)));
      few = omega arith;
    }

pub whole_remove : (all : List Kept) (at : ℕ) (d : Kept) → AreWhole all → at < length all → AreWhole (remove all at)
whole_remove all at d h p =
    let long = length-map all view_of in
    let before = count_is all in
    let after = count_is (remove all at) in
    let sum = sum_by-remove size_of all at d p in
    let few = h.few in
    record {
      distinct =
          subst (AllPairs (λ (a b : List ℕ). same_bytes a b ≡ false)) (sym (map_remove view_of all at))
          (all_pairs_remove (λ (a b : List ℕ). same_bytes a b ≡ false) (map view_of all) at (omega arith) h.distinct);
      few = omega arith;
    }

pub whole_set : (all : List Kept) (at : ℕ) (k : Kept) → AreWhole all → at < length all → k.view ≡ (get_or all at k).view → count (followed (set all at k)) ≤ 64 → AreWhole (set all at k)
whole_set all at k h p view few =
    record {
      distinct =
          subst (AllPairs (λ (a b : List ℕ). same_bytes a b ≡ false))
          (sym (map-set view_of all at k ∙ ap (set (map view_of all) at) (view ∙ sym (get_or-map view_of all at k [] p)) ∙ set-get_or (map view_of all) at [])) h.distinct;
      few = few;
    }

-- how many watches there are once those of a view are others
pub count_set : (all : List Kept) (at : ℕ) (k d : Kept) → at < length all → count (followed (set all at k)) + size_of (get_or all at d) ≡ count (followed all) + size_of k
count_set all at k d p =
    let before = count_is all in
    let after = count_is (set all at k) in
    let sum = sum_by-set size_of all at k d p in
    omega arith

pub all_left : {X : Type 0} (P : X → Type 0) (xs : List X) (at : ℕ) → at < length xs → All P xs → All P (remove xs at)
all_left P xs at p h k d q =
    let long = length-remove xs at p in
    elim (cases_lt k at) [
      | inl less ↦ subst P (sym (get_or-remove_below xs at d k less p)) (h k d (omega arith))
      | inr more ↦ subst P (sym (get_or-remove_above xs at d k more p)) (h (k + 1) d (omega arith))
    ]

-- where a watch was put there was room for it
pub not_full : {T : Type 0} (schema : List Attribute) (op : WatchOp) (depth : ℕ) (is_full : Bool) (x : T) → AnswersPut (watch_due schema op depth is_full) (Ok x) → is_full ≡ false
not_full {T} schema op depth true x e = absurd (let f : ◌≡◌ {A = Result T WatchError} (Ok x) (Err (refusal_of schema op)) = e in cc)
not_full schema op depth false x e = refl

-- no watches of no view
abbrev pub no_kept : Kept
no_kept = record { view = []; names = []; watching = record { watches = []; noted = None } }

pub views_is : (all : List Kept) → map view_of all ≡ map (λ (f : Followed). f.view) (followed all)
views_is [] = refl
views_is (k ∷ all) = ap (λ vs. k.view ∷ vs) (views_is all)

pub whole_along : (old new : List Kept) → map (λ (f : Followed). f.view) (followed new) ≡ map (λ (f : Followed). f.view) (followed old) → count (followed new) ≤ count (followed old) → AreWhole old → AreWhole new
whole_along old new views fewer h =
    let few = h.few in
    record { distinct = subst (AllPairs (λ (a b : List ℕ). same_bytes a b ≡ false)) (views_is old ∙ sym views ∙ sym (views_is new)) h.distinct; few = omega arith }

-- watches of which the same is seen
abbrev pub LooksSame : Kept → Kept → Type 0
LooksSame old new = followed_of new ≡ followed_of old

pub look_same : (old new : List Kept) → AreEach LooksSame old new → followed new ≡ followed old
look_same old new h =
    let one = length-map old followed_of in
    let two = length-map new followed_of in
    let long = h.long in
    same_lists (followed new) (followed old) (omega arith) (λ k d p.
    get_or-map followed_of new k no_kept d (omega arith) ∙ h.each k no_kept (omega arith) ∙ sym (get_or-map followed_of old k no_kept d (omega arith)))

pub same_whole : (old new : List Kept) → AreEach LooksSame old new → AreWhole old → AreWhole new
same_whole old new each h =
    let same = look_same old new each in
    let counts = ap count same in
    whole_along old new (ap (map (λ (f : Followed). f.view)) same) (omega arith) h

-- watches that stay
pub stays_look : (old new : List Kept) → AreEach Stays old new → AreEach LooksSame old new
stays_look old new h = record { long = h.long; each = λ k d p. (h.each k d p).same }

pub stays_followed : (old new : List Kept) → AreEach Stays old new → followed new ≡ followed old
stays_followed old new h = look_same old new (stays_look old new h)

pub stays_kept : (old new : List Kept) (views : List NamedTable) → AreEach Stays old new → AreKept views old → AreKept views new
stays_kept old new views each h k d p =
    let long = each.long in
    let stays = each.each k d (omega arith) in
    let kept : IsKept views (get_or old k d) = h k d (omega arith) in
    record { table = kept.table; there = ap (λ (f : Followed). table_of views f.view) stays.same ∙ kept.there; over = stays.kept kept.table.schema kept.table.rows kept.over }

pub stays_whole : (old new : List Kept) → AreEach Stays old new → AreWhole old → AreWhole new
stays_whole old new each h = same_whole old new (stays_look old new each) h

-- watches that note an edit
pub kept_but : (noting : List ℕ) (views : List NamedTable) (all : List Kept) → AreKept views all → AreKeptBut noting views all
kept_but noting views all h k d p =
    let kept : IsKept views (get_or all k d) = h k d p in
    record { table = kept.table; there = kept.there; now = kept.over.now; waits = λ _. kept.over.noted }

module _ (view : List ℕ) (schema : List Attribute) (rows : List (List Datum)) (edit : RowEdit) (old new : List Kept) (each : AreEach (Notes view schema rows edit) old new) where
  pub notes_look : AreEach LooksSame old new
  notes_look = record { long = each.long; each = λ k d p. (each.each k d p).same }

  of_view : (k : ℕ) (d : Kept) (b : Bool) → k < length old → same_bytes (get_or new k d).view view ≡ b → same_bytes (get_or old k d).view view ≡ b
  of_view k d b p e = ap (λ (f : Followed). same_bytes f.view view) (sym (each.each k d p).same) ∙ e

  pub notes_noted : HaveNoted view schema rows edit new
  notes_noted k d p e =
      let long = each.long in
      let q : k < length old = omega arith in
      (each.each k d q).noted (of_view k d true q e)

  pub notes_kept : (views : List NamedTable) → AreKept views old → AreKeptBut view views new
  notes_kept views h k d p =
      let long = each.long in
      let q : k < length old = omega arith in
      let notes = each.each k d q in
      let kept : IsKept views (get_or old k d) = h k d q in
      record {
        table = kept.table;
        there = ap (λ (f : Followed). table_of views f.view) notes.same ∙ kept.there;
        now = notes.now kept.table.schema kept.table.rows kept.over.now;
        waits = λ e. ap (λ (x : Kept). x.watching.noted) (notes.others (of_view k d false q e)) ∙ kept.over.noted;
      }

-- watches that wait again
module _ (view : List ℕ) (old new : List Kept) (each : AreEach (Forgets view) old new) where
  pub forgets_look : AreEach LooksSame old new
  forgets_look = record { long = each.long; each = λ k d p. (each.each k d p).same }

  pub forgets_kept : (views : List NamedTable) → AreKeptBut view views old → AreKept views new
  forgets_kept views h k d p =
      let long = each.long in
      let q : k < length old = omega arith in
      let forgets = each.each k d q in
      let kept : IsKeptBut view views (get_or old k d) = h k d q in
      record {
        table = kept.table;
        there = ap (λ (f : Followed). table_of views f.view) forgets.same ∙ kept.there;
        over = record {
          now = forgets.now kept.table.schema kept.table.rows kept.now;
          noted = at forgets kept (same_bytes (get_or old k d).view view) refl;
        };
      }
    where
      at : Forgets view (get_or old k d) (get_or new k d) → IsKeptBut view views (get_or old k d) → (b : Bool) → same_bytes (get_or old k d).view view ≡ b → (get_or new k d).watching.noted ≡ None
      at forgets kept true e = forgets.waits e
      at forgets kept false e = ap (λ (x : Kept). x.watching.noted) (forgets.others e) ∙ kept.waits e

-- watches that have followed a line
module _ (view : List ℕ) (n : ℕ) (schema : List Attribute) (before after : List (List Datum)) (old new : List Kept) (each : AreEach (Follows view n schema after) old new) where
  pub line_followed : followed new ≡ followed_by (followed old) view n
  line_followed =
      let one = length-map old followed_of in
      let two = length-map new followed_of in
      let by : Followed → Followed = λ f. cond (same_bytes f.view view) (raised n f) f in
      let three = length-map (followed old) by in
      let long = each.long in
      same_lists (followed new) (followed_by (followed old) view n) (omega arith) (λ k d p.
      get_or-map followed_of new k no_kept d (omega arith) ∙ (each.each k no_kept (omega arith)).followed
      ∙ ap by (sym (get_or-map followed_of old k no_kept d (omega arith))) ∙ sym (get_or-map by (followed old) k d d (omega arith)))

  view_stays : (k : Kept) (j : Kept) → Follows view n schema after k j → j.view ≡ k.view
  view_stays k j h = at (same_bytes k.view view) (ap (λ (f : Followed). f.view) h.followed)
    where
      at : (b : Bool) → j.view ≡ (cond b (raised n (followed_of k)) (followed_of k)).view → j.view ≡ k.view
      at true e = e
      at false e = e

  pub line_kept : (views others : List NamedTable) → AreKeptBut view views old → ChangesRows view schema before after views others → AreKept others new
  line_kept views others h change k d p =
      let long = each.long in
      let follows = each.each k d (omega arith) in
      let kept : IsKeptBut view views (get_or old k d) = h k d (omega arith) in
      let same = view_stays (get_or old k d) (get_or new k d) follows in
      at (same_bytes (get_or old k d).view view) refl follows kept same
    where
      at : (b : Bool) → same_bytes (get_or old k d).view view ≡ b → Follows view n schema after (get_or old k d) (get_or new k d) → IsKeptBut view views (get_or old k d) → (get_or new k d).view ≡ (get_or old k d).view
          → IsKept others (get_or new k d)
      at true e follows kept same =
          record {
            table = change.new_table;
            there = ap (table_of others) (same ∙ same_name (get_or old k d).view view e) ∙ change.is;
            over = kept_along (get_or new k d) schema after change.new_table change.schema_after change.rows_after (follows.kept e);
          }
      at false e follows kept same =
          record {
            table = kept.table;
            there = ap (table_of others) same ∙ change.others (get_or old k d).view e ∙ kept.there;
            over = subst (IsKeptOver kept.table.schema kept.table.rows) (sym (follows.others e)) (record { now = kept.now; noted = kept.waits e });
          }

maps_by : {X : Type 0} (h : Followed → X) (view : List ℕ) (n : ℕ) → ((f : Followed) → h (raised n f) ≡ h f) → (all : List Followed) → map h (followed_by all view n) ≡ map h all
maps_by h view n same [] = refl
maps_by h view n same (f ∷ all) = ap (λ x. x ∷ map h (followed_by all view n)) (at (same_bytes f.view view)) ∙ ap (λ xs. h f ∷ xs) (maps_by h view n same all)
  where
    at : (b : Bool) → h (cond b (raised n f) f) ≡ h f
    at true = same f
    at false = refl

pub line_whole : (view : List ℕ) (n : ℕ) (old new : List Kept) → followed new ≡ followed_by (followed old) view n → AreWhole old → AreWhole new
line_whole view n old new e h =
    let size : Followed → ℕ = λ f. length f.watches in
    let sizes : map size (followed new) ≡ map size (followed old) =
    ap (map size) e ∙ maps_by size view n (λ f. length-map f.watches (λ (s : Shown). record s { followed = raised_by n s.followed })) (followed old) in
    let one = sum-map size (followed new) in
    let two = sum-map size (followed old) in
    let sums = ap sum sizes in
    whole_along old new (ap (map (λ (f : Followed). f.view)) e ∙ maps_by (λ (f : Followed). f.view) view n (λ f. refl) (followed old)) (omega arith) h

-- An edit of the root, followed in one step: each sort of edit.
use Rattle.std.proofs.Common.{◌≡◌, ℕ, ◌+◌, ◌<◌, ◌≤◌, List, ◌++◌, length, get_or, map, replicate, take, drop, ap, sym, subst, ◌∙◌, arith}
use Rattle.std.proofs.lemmas.List.{get_or-map, length-map, take-append-drop}
use Rattle.mk_value.specs.Data.{Datum}
use Rattle.mk_value.specs.Heading.{Attribute}
use Rattle.mk_value.specs.Limits.{max_rows}
use Rattle.row_edits.specs.Edits.{IsInRange, edited}
use Rattle.row_edits.specs.Events.{count_of}
use Rattle.row_edits.specs.declared.edit.RowEdit.{RowEdit}
use Rattle.row_edits.specs.declared.edit.RowEdit.TheVariants.{Insert, Remove, Change}
use Rattle.live.specs.Chains.{AreDue, AreInside, AreNow, AreSame, AreTold, HaveRoom, raised, seen}
use Rattle.live.specs.Edits.{AreFew, AreLeft, HaveRoomFor, HaveTaken, room_of}
use Rattle.live.specs.States.{WatchState}
use Rattle.live.specs.Turns.{still_watch}
use Rattle.live.specs.Watching.{IsAsked, IsTurn, positions}
use Rattle.live.specs.declared.turn.Turn.{Turn}
use Rattle.live.specs.declared.turn.Turn.TheVariants.{Changes}
use Rattle.live.proofs.Edits.{set_turn}
use Rattle.live.proofs.Gone.{left_now}
use Rattle.live.proofs.Seeing.{linked_inside, seen_same}
use Rattle.live.proofs.Standing.{now_linked, now_same}

pub now_inside : (schema : List Attribute) (rows : List (List Datum)) (watches : List WatchState) → AreNow schema rows watches → AreInside watches
now_inside schema rows watches h = linked_inside rows watches (now_linked schema rows watches h)

pub now_few : (schema : List Attribute) (rows : List (List Datum)) (watches : List WatchState) → AreNow schema rows watches → AreFew watches
now_few schema rows watches h = (now_linked schema rows watches h).few

-- watches that have answered nothing
module _ (old : List WatchState) where
  abbrev still : List WatchState
  still = map still_watch old

  pub still_long : length still ≡ length old
  still_long = length-map old still_watch

  pub still_is : (k : ℕ) (d : WatchState) → k < length old → get_or still k d ≡ still_watch (get_or old k d)
  still_is k d p = get_or-map still_watch old k d d p

  pub now_still : (schema : List Attribute) (rows : List (List Datum)) → AreNow schema rows old → AreNow schema rows still
  now_still schema rows h = record {
    small = h.small;
    sources = λ k s d p e.
        let l = still_long in
        let q : k < length old = omega arith in
        h.sources k s d q (sym (ap (λ (w : WatchState). w.source) (still_is k d q)) ∙ e);
    asked = λ k d p.
        let l = still_long in
        let q : k < length old = omega arith in
        subst (λ (w : WatchState). IsAsked schema w.op) (sym (still_is k d q)) (h.asked k d q);
    now = λ k d p.
        let l = still_long in
        let q : k < length old = omega arith in
        subst (λ (w : WatchState). w.kept ≡ positions schema w.op (seen rows still w.source)) (sym (still_is k d q))
        (h.now k d q ∙ ap (positions schema (get_or old k d).op)
        (sym (seen_same rows old still l (λ j e r. ap (λ (w : WatchState). w.source) (still_is j e r)) (λ j e r. ap (λ (w : WatchState). w.kept) (still_is j e r)) (get_or old k d).source)));
  }

-- an edit of no rows
pub removed_none : (row : List Datum) (before rows : List (List Datum)) (e : RowEdit) (at count : ℕ) → e ≡ Remove at count → count ≡ 0 → rows ≡ edited row e before → rows ≡ before
removed_none row before rows e at count is none made =
    made ∙ ap (λ f. edited row f before) is ∙ ap (λ n. take at before ++ drop (at + n) before) none ∙ ap (λ k. take at before ++ drop k before) (let z : at + 0 ≡ at = omega arith in z) ∙ take-append-drop at before

pub inserted_none : (row : List Datum) (before rows : List (List Datum)) (e : RowEdit) (at count : ℕ) → e ≡ Insert at count → count ≡ 0 → rows ≡ edited row e before → rows ≡ before
inserted_none row before rows e at count is none made =
    made ∙ ap (λ f. edited row f before) is ∙ ap (λ n. take at before ++ (replicate n row ++ drop at before)) none ∙ take-append-drop at before

-- what the rows after an edit are, where its sort is known
module _ (schema : List Attribute) (before rows : List (List Datum)) (row : List Datum) (edit : RowEdit) (old : List WatchState) (h : AreNow schema before old) (range : IsInRange edit (length before)) (made : rows ≡ edited row edit before) where
  -- nothing was removed
  pub nothing_now : (at count : ℕ) → edit ≡ Remove at count → count ≡ 0 → AreNow schema rows (map still_watch old)
  nothing_now at count is none =
      let same : rows ≡ before = made ∙ ap (λ e. edited row e before) is ∙ ap (λ n. take at before ++ drop (at + n) before) none ∙ ap (λ k. take at before ++ drop k before) (let e : at + 0 ≡ at = omega arith in e) ∙ take-append-drop at before in
      now_still old schema rows (subst (λ rs. AreNow schema rs old) (sym same) h)

  -- nothing came
  pub no_more_now : (at count : ℕ) → edit ≡ Insert at count → count ≡ 0 → AreNow schema rows (map still_watch old)
  no_more_now at count is none =
      let same : rows ≡ before = made ∙ ap (λ e. edited row e before) is ∙ ap (λ n. take at before ++ (replicate n row ++ drop at before)) none ∙ take-append-drop at before in
      now_still old schema rows (subst (λ rs. AreNow schema rs old) (sym same) h)

  pub removed_now : (at count : ℕ) → edit ≡ Remove at count → (new : List WatchState) → AreLeft at count old new → length rows ≤ max_rows → AreNow schema rows new
  removed_now at count is new left few =
      left_now schema before rows at count old new (subst (λ e. IsInRange e (length before)) is range) (made ∙ ap (λ e. edited row e before) is) h left few

  pub changed_due : (at : ℕ) → edit ≡ Change at → (mid : List WatchState) → AreSame old mid → (other : List Attribute) → other ≡ schema → AreDue other mid (Changes at) rows
  changed_due at is mid same other e = record {
    before = before;
    now = subst (λ s. AreNow s before mid) (sym e) (now_same schema before old mid same h);
    made = subst (λ rs. IsTurn (Changes at) before rs) (sym (made ∙ ap (λ f. edited row f before) is)) (set_turn before at row (subst (λ f. IsInRange f (length before)) is range));
  }

-- what one row that changes takes
module _ (edit : RowEdit) (at : ℕ) (is : edit ≡ Change at) (old mid : List WatchState) (same : AreSame old mid) (room : map (λ (w : WatchState). w.room) mid ≡ map (λ (w : WatchState). w.room) old) where
  room_is : (k : ℕ) (d : WatchState) → k < length old → (get_or mid k d).room ≡ (get_or old k d).room
  room_is k d p =
      let l = same.long in
      sym (get_or-map (λ (w : WatchState). w.room) mid k d 0 (omega arith)) ∙ ap (λ (xs : List ℕ). get_or xs k 0) room ∙ get_or-map (λ (w : WatchState). w.room) old k d 0 p

  pub changed_room : HaveRoomFor (room_of edit) old → HaveRoom mid
  changed_room some k d p =
      let l = same.long in
      let a = room_is k d (omega arith) in
      let b = some k d (omega arith) in
      let c = ap room_of is in
      omega arith

  pub changed_taken : (turn : Turn) (new : List WatchState) → AreTold turn mid new → HaveTaken (count_of edit) (room_of edit) old new
  changed_taken turn new told =
      subst (λ e. HaveTaken (count_of e) (room_of e) old new) (sym is) (record {
        long = told.long ∙ same.long;
        each = λ k d p.
            let l = same.long in
            let one = same.each k d p in
            let two = told.each k d (omega arith) in
            let a = room_is k d p in
            let b = two.room in
            record {
              followed = record {
                number = two.number ∙ one.number;
                source = two.source ∙ one.source;
                op = two.op ∙ one.op;
                followed = two.followed ∙ ap raised one.followed;
              };
              room = omega arith;
            };
      })

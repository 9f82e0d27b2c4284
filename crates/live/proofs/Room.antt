-- How many positions more all watches take, and how many events that is.
use Rattle.std.proofs.Common.{◌≡◌, ℕ, zero, suc, ◌+◌, ◌-◌, ◌<◌, ◌≤◌, min, List, [], ◌∷◌, length, get_or, set, map, All, Option, Some, None, refl, ap, sym, subst, ◌∙◌, arith, inl, inr}
use Rattle.std.proofs.Math.Seq.{map-set_same}
use Rattle.std.proofs.lemmas.Bool.{cases_eq}
use Rattle.std.proofs.lemmas.List.{get_or-map, get_or-set_other, get_or-set_same, get_or_default}
use Rattle.std.proofs.Math.Nat.{le-min, le_trans, min-le_left, min-le_right}
use Rattle.live.specs.Answers.{noted_for, room_followed}
use Rattle.live.specs.Edits.{room_of}
use Rattle.places.specs.Numbers.{chunks_for}
use Rattle.live.specs.Chains.{AreInside, AreNoted, AreSame, HaveRoom, IsSame, going_of}
use Rattle.live.specs.Keeping.{AreKept}
use Rattle.live.specs.Putting.{least_room, no_bound, set_aside}
use Rattle.live.specs.States.{WatchState}
use Rattle.live.specs.Watching.{goes_from, placed, root_turn}
use Rattle.row_edits.specs.declared.edit.RowEdit.{RowEdit}
use Rattle.row_edits.specs.declared.edit.RowEdit.TheVariants.{Insert, Remove, Change}
use Rattle.row_edits.specs.declared.event.Event.{Event}
use Rattle.row_edits.specs.declared.event.Event.TheVariants as event
use Rattle.live.proofs.Standing.{same_each, same_set}

min_first : (a b n : ℕ) → n ≤ min a b → n ≤ a
min_first a b n h = le_trans h (min-le_left a b)

min_second : (a b n : ℕ) → n ≤ min a b → n ≤ b
min_second a b n h = le_trans h (min-le_right a b)

-- each watch takes as many as all take
pub room_each : (n : ℕ) (watches : List WatchState) → n ≤ least_room watches → (k : ℕ) (d : WatchState) → k < length watches → n ≤ (get_or watches k d).room
room_each n [] h k d p = absurd (omega arith)
room_each n (w ∷ watches) h zero d p = min_first w.room (least_room watches) n h
room_each n (w ∷ watches) h (suc k) d p = room_each n watches (min_second w.room (least_room watches) n h) k d (omega arith)

pub room_all : (n : ℕ) (watches : List WatchState) → n ≤ no_bound → ((k : ℕ) (d : WatchState) → k < length watches → n ≤ (get_or watches k d).room) → n ≤ least_room watches
room_all n [] few h = few
room_all n (w ∷ watches) few h = le-min (h 0 w (omega arith)) (room_all n watches few (λ k d p. h (suc k) d (omega arith)))

pub least_few : (watches : List WatchState) → least_room watches ≤ no_bound
least_few [] = omega arith
least_few (w ∷ watches) = let a = min_second w.room (least_room watches) (least_room (w ∷ watches)) (omega arith) in let b = least_few watches in omega arith

-- where one event can be followed, each watch has room
aside_le : (o : Option Event) (n : ℕ) → set_aside o n ≤ n
aside_le None n = omega arith
aside_le (Some e) n = omega arith

pub have_room : (o : Option Event) (watches : List WatchState) → 0 < set_aside o (least_room watches) → HaveRoom watches
have_room o watches h k d p =
    let a = aside_le o (least_room watches) in
    room_each 1 watches (omega arith) k d p

-- one event noted sets one aside
pub set_one_aside : (o : Option Event) (e : Event) (n m : ℕ) → m ≡ n → set_aside o n ≤ set_aside (Some e) m + 1
set_one_aside o e n m same = let a = aside_le o n in omega arith

-- the room of watches that have it
pub same_room : (old new : List WatchState) → map (λ (w : WatchState). w.room) new ≡ map (λ (w : WatchState). w.room) old → least_room new ≡ least_room old
same_room [] [] e = refl
same_room [] (n ∷ new) e = cc
same_room (o ∷ old) [] e = cc
same_room (o ∷ old) (n ∷ new) e =
    let first : n.room ≡ o.room = cc in
    let rest : map (λ (w : WatchState). w.room) new ≡ map (λ (w : WatchState). w.room) old = cc in
    ap (λ a. min a (least_room new)) first ∙ ap (min o.room) (same_room old new rest)

-- what one event followed takes was set aside
pub followed_room : (e : Event) (o : Option Event) (old new : List WatchState) → o ≡ Some e → length new ≡ length old
    → ((k : ℕ) (d : WatchState) → k < length old → (get_or old k d).room ≤ (get_or new k d).room + 1) → set_aside o (least_room old) ≤ least_room new
followed_room e o old new is long h =
    let n : ℕ = least_room old - 1 in
    let few = least_few old in
    let all : n ≤ least_room new = room_all n new (omega arith) (λ k d p.
    let a = room_each (least_room old) old (omega arith) k d (omega arith) in
    let b = h k d (omega arith) in
    omega arith) in
    subst (λ x. set_aside x (least_room old) ≤ least_room new) (sym is) all

-- one more than is asked for is enough, whether an event is noted or not
pub aside_more : (o : Option Event) (n m : ℕ) → m + 1 ≤ n → m ≤ set_aside o n
aside_more None n m h = omega arith
aside_more (Some e) n m h = omega arith

-- the first i of the watches have so much room more
pub record AreReserved (more : ℕ) (old ls : List WatchState) (i : ℕ) : Type 0 where
  pub same : AreSame old ls
  pub going : map (λ (w : WatchState). w.going) ls ≡ map (λ (w : WatchState). w.going) old
  pub grown : (k : ℕ) (d : WatchState) → k < length old → (get_or old k d).room ≤ (get_or ls k d).room
  pub room : (k : ℕ) (d : WatchState) → k < i → more ≤ (get_or ls k d).room

pub reserved_none : (more : ℕ) (old : List WatchState) → AreReserved more old old 0
reserved_none more old = record { same = same_each old; going = refl; grown = λ k d p. omega arith; room = λ k d p. absurd (omega arith) }

module _ (more : ℕ) (old ls : List WatchState) (i : ℕ) (h : AreReserved more old ls i) (p : i < length old) (item new : WatchState) (read : item ≡ get_or ls i item) (same : IsSame item new) (going : new.going ≡ item.going) (grown : item.room ≤ new.room) where
  within : i < length ls
  within = let l = h.same.long in omega arith

  read_any : (d : WatchState) → item ≡ get_or ls i d
  read_any d = read ∙ get_or_default ls i item d within

  grown_all : (k : ℕ) (d : WatchState) → k < length old → (get_or old k d).room ≤ (get_or (set ls i new) k d).room
  grown_all k d q = elim (cases_eq k i) [
    | inl e ↦
        let a = h.grown i d p in
        let b = ap (λ (w : WatchState). w.room) (read_any d) in
        let here = ap (λ (w : WatchState). w.room) (get_or-set_same ls i new d within) in
        let one : (get_or old i d).room ≤ (get_or (set ls i new) i d).room = omega arith in
        subst (λ j. (get_or old j d).room ≤ (get_or (set ls i new) j d).room) (sym e) one
    | inr ne ↦ subst (λ (w : WatchState). (get_or old k d).room ≤ w.room) (sym (get_or-set_other ls i k new d ne)) (h.grown k d q)
  ]

  -- one that could not be given more is not less than it was
  pub reserved_less : AreReserved more old (set ls i new) i
  reserved_less = record {
    same = same_set old ls h.same i p new (λ d. subst (λ w. IsSame w new) (read_any d) same);
    going = map-set_same (λ (w : WatchState). w.going) ls i new item (going ∙ ap (λ (w : WatchState). w.going) read) ∙ h.going;
    grown = grown_all;
    room = λ k d q. subst (λ (w : WatchState). more ≤ w.room) (sym (get_or-set_other ls i k new d (λ e. let n : k ≡ i = e in absurd_less k i q n))) (h.room k d q);
  }
    where
      absurd_less : (a b : ℕ) → a < b → a ≡ b → ⊥
      absurd_less a b q e = absurd (omega arith)

  pub reserved_more : more ≤ new.room → AreReserved more old (set ls i new) (i + 1)
  reserved_more enough = record {
    same = reserved_less.same;
    going = reserved_less.going;
    grown = grown_all;
    room = λ k d q. elim (cases_eq k i) [
      | inl e ↦ subst (λ j. more ≤ (get_or (set ls i new) j d).room) (sym e) (subst (λ (w : WatchState). more ≤ w.room) (sym (get_or-set_same ls i new d within)) enough)
      | inr ne ↦ reserved_less.room k d (omega arith)
    ];
  }

-- what a reserve leaves
pub same_inside : (old new : List WatchState) → AreSame old new → AreInside old → AreInside new
same_inside old new same h = record {
  sources = λ k s d p e. let l = same.long in h.sources k s d (omega arith) (sym ((same.each k d (omega arith)).source) ∙ e);
  within = λ k s d e p is.
      let l = same.long in
      let q : k < length old = omega arith in
      let src = sym ((same.each k d q).source) ∙ is in
      let r : s < length old = let a = h.sources k s d q src in omega arith in
      subst (λ ks. All (λ i. i < length (get_or new s e).kept) ks) (sym ((same.each k d q).kept))
      (subst (λ ks. All (λ i. i < length ks) (get_or old k d).kept) (sym ((same.each s e r).kept)) (h.within k s d e q src));
}

pub same_noted : (goes : Option ℕ) (old new : List WatchState) → AreSame old new → map (λ (w : WatchState). w.going) new ≡ map (λ (w : WatchState). w.going) old → AreNoted goes old → AreNoted goes new
same_noted goes old new same going h k d p =
    let l = same.long in
    let q : k < length old = omega arith in
    let read : (get_or new k d).going ≡ (get_or old k d).going =
    sym (get_or-map (λ (w : WatchState). w.going) new k d None p) ∙ ap (λ (xs : List (Option ℕ)). get_or xs k None) going ∙ get_or-map (λ (w : WatchState). w.going) old k d None q in
    read ∙ h k d q
    ∙ ap (λ ks. placed ks (going_of goes old (get_or old k d).source)) (sym ((same.each k d q).kept))
    ∙ ap (placed (get_or new k d).kept) (at (get_or old k d).source ∙ ap (going_of goes new) (sym ((same.each k d q).source)))
  where
    at : (o : Option ℕ) → going_of goes old o ≡ going_of goes new o
    at None = refl
    at (Some s) = ap (λ (xs : List (Option ℕ)). get_or xs s None) (sym going)

pub same_kept : (noted : Option Event) (old new : List WatchState) → AreSame old new → map (λ (w : WatchState). w.going) new ≡ map (λ (w : WatchState). w.going) old
    → ((k : ℕ) (d : WatchState) → k < length old → (get_or old k d).room ≤ (get_or new k d).room) → AreKept old noted → AreKept new noted
same_kept noted old new same going grown h = record {
  inside = same_inside old new same h.inside;
  ready = λ e is.
      let r = h.ready e is in (
        same_noted (goes_from (root_turn e)) old new same going r.0,
        λ k d p. let l = same.long in let a = grown k d (omega arith) in let b = r.1 k d (omega arith) in omega arith,
      );
}

pub reserved_room : (noted : Option Event) (more wanted : ℕ) (new : List WatchState) → wanted ≡ more + 1 → wanted ≤ no_bound → All (λ (w : WatchState). wanted ≤ w.room) new → more ≤ set_aside noted (least_room new)
reserved_room noted more wanted new is few h =
    let a = room_all wanted new few (λ k d p. h k d p) in
    aside_more noted (least_room new) more (omega arith)

-- what an edit takes of each watch, where so much is left
pub room_for : (o : Option Event) (n : ℕ) (watches : List WatchState) → n ≤ set_aside o (least_room watches) → (k : ℕ) (d : WatchState) → k < length watches → n ≤ (get_or watches k d).room
room_for o n watches h k d p =
    let a = aside_le o (least_room watches) in
    room_each n watches (omega arith) k d p

pub taken_room : (o : Option Event) (n : ℕ) (old new : List WatchState) → length new ≡ length old → ((k : ℕ) (d : WatchState) → k < length old → (get_or old k d).room ≤ (get_or new k d).room + n) → set_aside o (least_room old) ≤ least_room new + n
taken_room o n old new long h =
    let few = least_few old in
    let all : least_room old - n ≤ least_room new = room_all (least_room old - n) new (omega arith) (λ k d p.
    let a = room_each (least_room old) old (omega arith) k d (omega arith) in
    let b = h k d (omega arith) in
    omega arith) in
    let c = aside_le o (least_room old) in
    omega arith

-- what an edit takes beside what was set aside for it when it was noted
pub edit_room : (e : RowEdit) (o : Option Event) (old new : List WatchState) → o ≡ noted_for e → length new ≡ length old
    → ((k : ℕ) (d : WatchState) → k < length old → (get_or old k d).room ≤ (get_or new k d).room + room_of e) → set_aside o (least_room old) ≤ least_room new + room_followed e
edit_room (Insert at count) o old new is long h = taken_room o (chunks_for count) old new long h
edit_room (Remove at count) o old new is long h = taken_room o 0 old new long h
edit_room (Change at) o old new is long h = let a = followed_room (event.Change at) o old new is long h in omega arith

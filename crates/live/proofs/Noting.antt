-- Watches that note, one after another, where the row that goes stands in them.
use Rattle.std.proofs.Common.{◌≡◌, ◌≢◌, ℕ, ◌+◌, ◌-◌, ◌*◌, ◌^◌, ◌<◌, ◌≤◌, Bool, true, false, if◌then◌else◌, List, [], length, get_or, set, map, take, Option, Some, None, refl, ap, sym, subst, ◌∙◌, arith, inl, inr}
use Rattle.std.specs.Option.{ForSome}
use Rattle.std.proofs.lemmas.Bool.{cases_lt, cases_eq}
use Rattle.std.proofs.lemmas.List.{get_or-take, get_or-map, take-map, take-set, length-map, get_or-set_same, get_or-set_other, same_lists}
use Rattle.mk_value.specs.Data.{Datum}
use Rattle.mk_value.specs.Heading.{Attribute}
use Rattle.live.specs.Chains.{AreLinked, AreNow, AreSame, IsSame, going_of, seen}
use Rattle.live.specs.Costs.{before_cost, digits}
use Rattle.live.specs.States.{WatchState}
use Rattle.live.specs.Watching.{is_sorting, placed, positions}
use Rattle.live.proofs.Along.{some_watch}
use Rattle.live.proofs.Chaining.{placed_in}
use Rattle.live.proofs.Digits.{digits_bound}
use Rattle.live.proofs.Seeing.{seen_at, seen_prefix}
use Rattle.live.proofs.Standing.{linked_front, now_linked, now_same, same_each, same_seen, same_set}

pub going_prefix : (goes : Option ℕ) (ls : List WatchState) (n : ℕ) (over : Option ℕ) → ForSome over (λ s. s < n) → going_of goes (take n ls) over ≡ going_of goes ls over
going_prefix goes ls n None below = refl
going_prefix goes ls n (Some s) below =
    ap (λ xs. get_or xs s None) (sym (take-map (λ (l : WatchState). l.going) n ls)) ∙ get_or-take n (map (λ (l : WatchState). l.going) ls) s None (below s refl)

going_alike : (goes : Option ℕ) (xs ys : List WatchState) (n : ℕ) (over : Option ℕ) → take n xs ≡ take n ys → ForSome over (λ s. s < n) → going_of goes xs over ≡ going_of goes ys over
going_alike goes xs ys n over e below = sym (going_prefix goes xs n over below) ∙ ap (λ ls. going_of goes ls over) e ∙ going_prefix goes ys n over below

-- the first i of the watches have noted it
pub record HaveNoted (goes : Option ℕ) (old : List WatchState) (ls : List WatchState) (i : ℕ) : Type 0 where
  pub within : i ≤ length old
  pub same : AreSame old ls
  pub room : (k : ℕ) (d : WatchState) → k < length old → (get_or ls k d).room ≡ (get_or old k d).room
  pub noted : (k : ℕ) (d : WatchState) → k < i → (get_or ls k d).going ≡ placed (get_or ls k d).kept (going_of goes ls (get_or ls k d).source)

pub noted_none : (goes : Option ℕ) (old : List WatchState) → HaveNoted goes old old 0
noted_none goes old = record {
  within = omega arith;
  same = same_each old;
  room = λ k d p. refl;
  noted = λ k d p. absurd (omega arith);
}

module _ (schema : List Attribute) (rows : List (List Datum)) (goes : Option ℕ) (old : List WatchState) (now : AreNow schema rows old) (there : ForSome goes (λ p. p < length rows)) (ls : List WatchState) (i : ℕ) (h : HaveNoted goes old ls i) (p : i < length old) where
  abbrev here_now : AreNow schema rows ls
  here_now = now_same schema rows old ls h.same now

  at_i : i < length ls
  at_i = let e = h.same.long in omega arith

  -- where the row that goes stands in the source is in range
  going_there : (over : Option ℕ) → ForSome over (λ s. s < i) → (d : WatchState) → ForSome (going_of goes ls over) (λ q. q < length (seen rows ls over))
  going_there None below d = there
  going_there (Some s) below d =
      let a = below s refl in
      let b = at_i in
      let q : s < length ls = omega arith in
      let read : going_of goes ls (Some s) ≡ placed (get_or ls s d).kept (going_of goes ls (get_or ls s d).source) = get_or-map (λ (l : WatchState). l.going) ls s d None q ∙ h.noted s d a in
      λ x e.
      let r = placed_in (get_or ls s d).kept (going_of goes ls (get_or ls s d).source) x (sym read ∙ e) in
      let size = ap length (seen_at rows ls here_now.sources s d q) ∙ length-map (get_or ls s d).kept (λ j. get_or (seen rows ls (get_or ls s d).source) j []) in
      omega arith

  module _ (d : WatchState) (below : List WatchState) (is_below : below ≡ take i ls) (link : WatchState) (is_link : link ≡ get_or ls i d) where
    pub src_below : ForSome (get_or ls i d).source (λ s. s < i)
    src_below s e = here_now.sources i s d at_i e

    pub note_source : ForSome link.source (λ s. s < i)
    note_source = subst (λ (l : WatchState). ForSome l.source (λ s. s < i)) (sym is_link) src_below

    pub note_linked : AreLinked rows below
    note_linked = subst (AreLinked rows) (sym is_below) (linked_front rows ls i (let a = at_i in omega arith) (now_linked schema rows ls here_now))

    pub note_there : ForSome (going_of goes below link.source) (λ q. q < length (seen rows below link.source))
    note_there =
        subst (λ (l : WatchState). ForSome (going_of goes below l.source) (λ q. q < length (seen rows below l.source))) (sym is_link)
        (subst (λ bs. ForSome (going_of goes bs (get_or ls i d).source) (λ q. q < length (seen rows bs (get_or ls i d).source))) (sym is_below)
        (subst (λ o. ForSome o (λ q. q < length (seen rows (take i ls) (get_or ls i d).source))) (sym (going_prefix goes ls i (get_or ls i d).source src_below))
        (subst (λ xs. ForSome (going_of goes ls (get_or ls i d).source) (λ q. q < length xs)) (sym (seen_prefix rows ls i (get_or ls i d).source src_below))
        (going_there (get_or ls i d).source src_below d))))

    pub note_now : link.kept ≡ positions schema link.op (seen rows below link.source)
    note_now =
        subst (λ (l : WatchState). l.kept ≡ positions schema l.op (seen rows below l.source)) (sym is_link)
        (subst (λ bs. (get_or ls i d).kept ≡ positions schema (get_or ls i d).op (seen rows bs (get_or ls i d).source)) (sym is_below)
        (here_now.now i d at_i ∙ ap (positions schema (get_or ls i d).op) (sym (seen_prefix rows ls i (get_or ls i d).source src_below))))

  module _ (new : WatchState)
      (f_same : (d : WatchState) → IsSame (get_or ls i d) new)
      (f_room : (d : WatchState) → new.room ≡ (get_or ls i d).room)
      (f_noted : (d : WatchState) → new.going ≡ placed (get_or ls i d).kept (going_of goes (take i ls) (get_or ls i d).source)) where
    abbrev all : List WatchState
    all = set ls i new

    here : (d : WatchState) → get_or all i d ≡ new
    here d = get_or-set_same ls i new d at_i

    other : (k : ℕ) (d : WatchState) → k ≢ i → get_or all k d ≡ get_or ls k d
    other k d ne = get_or-set_other ls i k new d ne

    going_all : (over : Option ℕ) → ForSome over (λ s. s < i) → going_of goes all over ≡ going_of goes ls over
    going_all over below = going_alike goes all ls i over (take-set ls i new) below

    room_all : (k : ℕ) (d : WatchState) → k < length old → (get_or all k d).room ≡ (get_or old k d).room
    room_all k d q = elim (cases_eq k i) [
      | inl e ↦ ap (λ (w : WatchState). w.room) (ap (λ j. get_or all j d) e ∙ here d) ∙ f_room d ∙ h.room i d p ∙ ap (λ j. (get_or old j d).room) (sym e)
      | inr ne ↦ ap (λ (w : WatchState). w.room) (other k d ne) ∙ h.room k d q
    ]

    pub noted_more : HaveNoted goes old all (i + 1)
    noted_more = record {
      within = omega arith;
      same = same_set old ls h.same i p new f_same;
      room = room_all;
      noted = λ k d q. elim (cases_lt k i) [
        | inl lt ↦
            let src = (get_or ls k d).source in
            let b = at_i in
            subst (λ (l : WatchState). l.going ≡ placed l.kept (going_of goes all l.source)) (sym (other k d (omega arith)))
            (h.noted k d lt ∙ ap (placed (get_or ls k d).kept) (sym (going_all src (λ s e. let a = here_now.sources k s d (omega arith) e in omega arith))))
        | inr ge ↦
            let e : i ≡ k = omega arith in
            let src_in : ForSome (get_or ls i d).source (λ s. s < i) = λ s f. here_now.sources i s d at_i f in
            let same = f_same d in
            subst (λ j. (get_or all j d).going ≡ placed (get_or all j d).kept (going_of goes all (get_or all j d).source)) e
            (subst (λ (l : WatchState). l.going ≡ placed l.kept (going_of goes all l.source)) (sym (here d))
            (f_noted d
            ∙ ap (placed (get_or ls i d).kept) (going_prefix goes ls i (get_or ls i d).source src_in ∙ sym (going_all (get_or ls i d).source src_in) ∙ ap (going_of goes all) (sym (same.source)))
            ∙ ap (λ ks. placed ks (going_of goes all new.source)) (sym (same.kept))))
      ];
    }

-- all have noted it, and have the room that they had
pub noted_room : (goes : Option ℕ) (old ls : List WatchState) (i : ℕ) → HaveNoted goes old ls i → map (λ (w : WatchState). w.room) ls ≡ map (λ (w : WatchState). w.room) old
noted_room goes old ls i h =
    let room : WatchState → ℕ = λ w. w.room in
    let long = h.same.long in
    same_lists (map room ls) (map room old) (length-map ls room ∙ long ∙ sym (length-map old room)) (λ k n p.
    let q : k < length ls = omega (arith, p, length-map ls room) in
    let r : k < length old = omega arith in
    read ls k n q ∙ h.room k (some_watch ls k q) r ∙ sym (read_other old k n r (some_watch ls k q)))
  where
    read : (ws : List WatchState) (k n : ℕ) (q : k < length ws) → get_or (map (λ (w : WatchState). w.room) ws) k n ≡ (get_or ws k (some_watch ws k q)).room
    read ws k n q = get_or-map (λ (w : WatchState). w.room) ws k (some_watch ws k q) n q

    read_other : (ws : List WatchState) (k n : ℕ) → k < length ws → (d : WatchState) → get_or (map (λ (w : WatchState). w.room) ws) k n ≡ (get_or ws k d).room
    read_other ws k n q d = get_or-map (λ (w : WatchState). w.room) ws k d n q

-- what noting costs one watch
pub note_cost : (rows : List (List Datum)) (old ls : List WatchState) → AreSame old ls → (i : ℕ) → i < length old → (d : WatchState) (below : List WatchState) → below ≡ take i ls → (link : WatchState) → link ≡ get_or ls i d
    → (start after : ℕ) → 2 ^ (after - start) ≤ 2 * length (seen rows below link.source) + 1 → (is_sorting link.op ≡ false → after ≡ start) → ForSome (get_or ls i d).source (λ s. s < i)
    → after ≤ start + before_cost rows old (get_or old i d)
note_cost rows old ls same i p d below is_below link is_link start after cost free src_below =
    let size : seen rows below link.source ≡ seen rows old (get_or old i d).source =
    ap (λ bs. seen rows bs link.source) is_below ∙ ap (λ (l : WatchState). seen rows (take i ls) l.source) is_link ∙ seen_prefix rows ls i (get_or ls i d).source src_below
    ∙ same_seen rows old ls same (get_or ls i d).source ∙ ap (seen rows old) ((same.each i d p).source) in
    let op : link.op ≡ (get_or old i d).op = ap (λ (l : WatchState). l.op) is_link ∙ (same.each i d p).op in
    let few = digits_bound (after - start) (length (seen rows old (get_or old i d).source)) (subst (λ xs. 2 ^ (after - start) ≤ 2 * length xs + 1) size cost) in
    at (is_sorting (get_or old i d).op) (λ e. free (ap is_sorting op ∙ e)) few refl
  where
    at : (b : Bool) → (b ≡ false → after ≡ start) → after - start ≤ digits (length (seen rows old (get_or old i d).source)) → is_sorting (get_or old i d).op ≡ b
        → after ≤ start + (if b then digits (length (seen rows old (get_or old i d).source)) else 0)
    at true f few e = omega arith
    at false f few e = let g = f refl in omega arith

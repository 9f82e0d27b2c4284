-- Watches that leave out rows of the root that went, the last one first.
use Rattle.std.proofs.Common.{◌≡◌, ℕ, zero, suc, ◌+◌, ◌-◌, ◌<◌, ◌≤◌, Bool, List, [], ◌++◌, length, get_or, set, take, drop, Option, Some, None, refl, ap, sym, subst, ◌∙◌, arith, inl, inr}
use Rattle.std.specs.List.{All}
use Rattle.std.specs.Option.{ForSome}
use Rattle.std.proofs.lemmas.Bool.{cases_eq}
use Rattle.std.proofs.lemmas.List.{get_or-set_other, get_or-set_same, get_or-take, get_or_default, length-map, length-set, length-take-le, take-set, take-take}
use Rattle.std.proofs.lemmas.List.Elements.{filter_agree}
use Rattle.mk_value.specs.Data.{Datum}
use Rattle.mk_value.specs.Heading.{Attribute}
use Rattle.mk_value.specs.Limits.{max_rows}
use Rattle.relations.specs.Rows.{rows_at}
use Rattle.relations.proofs.Ascending.{place_of}
use Rattle.live.specs.Chains.{AreInside, AreNow, along, place_in_root, seen, watch_places}
use Rattle.live.specs.Edits.{AreFew, AreLeft, HasTaken}
use Rattle.relations.specs.Positions.{numbers}
use Rattle.live.specs.Leaving.{goes_at, is_inside, kept_left, places_among, rows_left, went}
use Rattle.live.specs.States.{WatchState}
use Rattle.live.specs.Watching.{IsAsked, positions}
use Rattle.live.proofs.Along.{prefix_along}
use Rattle.live.proofs.Leaving.{kept_alike, left_rows, positions_left, rows_alike, rows_span}
use Rattle.live.proofs.Seeing.{place_at, seen_at}
use Rattle.live.proofs.Standing.{now_linked}

-- where a row stands in the root rests on the watches before it alone
places_prefix : (watches : List WatchState) (n : ℕ) (over : Option ℕ) (i : ℕ) → ForSome over (λ s. s < n) → place_in_root (take n watches) over i ≡ place_in_root watches over i
places_prefix watches n None i below = refl
places_prefix watches n (Some s) i below =
    ap (λ (xs : List (List ℕ)). get_or (get_or xs s []) i 0) (sym (prefix_along watch_places [] n watches)) ∙ ap (λ (xs : List ℕ). get_or xs i 0) (get_or-take n (along watch_places [] watches) s [] (below s refl))

-- the watches from the n-th on have left out what went, and the others are as they were
pub record HaveLeft (at count : ℕ) (old ls : List WatchState) (n : ℕ) : Type 0 where
  pub long : length ls ≡ length old
  pub within : n ≤ length old
  pub rest : take n ls ≡ take n old
  pub taken : (k : ℕ) (d : WatchState) → n ≤ k → k < length old → HasTaken count 0 (get_or old k d) (get_or ls k d)
  pub kept : (k : ℕ) (d : WatchState) → n ≤ k → k < length old → (get_or ls k d).kept ≡ kept_left (goes_at at count old (get_or old k d).source) (get_or old k d).kept
  pub answer : (k : ℕ) (d : WatchState) → n ≤ k → k < length old → (get_or ls k d).answer ≡ went at count (places_among at count old (get_or old k d))

-- the first watches alone
module _ (old : List WatchState) (i : ℕ) (le : i ≤ length old) where
  front_is : (k : ℕ) (d : WatchState) → k < i → get_or (take i old) k d ≡ get_or old k d
  front_is k d p = get_or-take i old k d p

  pub front_inside : AreInside old → AreInside (take i old)
  front_inside h =
      let long = length-take-le i old le in
      record {
        sources = λ k s d p e. h.sources k s d (omega arith) (ap (λ (w : WatchState). w.source) (sym (front_is k d (omega arith))) ∙ e);
        within = λ k s d e p is.
            let q : k < i = omega arith in
            let src = ap (λ (w : WatchState). w.source) (sym (front_is k d q)) ∙ is in
            let r = h.sources k s d (omega arith) src in
            subst (λ (w : WatchState). All (λ j. j < length w.kept) (get_or (take i old) k d).kept) (sym (front_is s e (omega arith)))
            (subst (λ (w : WatchState). All (λ j. j < length (get_or old s e).kept) w.kept) (sym (front_is k d q)) (h.within k s d e (omega arith) src));
      }

  pub front_few : AreFew old → AreFew (take i old)
  front_few h k d p =
      let long = length-take-le i old le in
      let q : k < i = omega arith in
      let a = h k d (omega arith) in
      subst (λ (w : WatchState). length w.kept ≤ max_rows) (sym (front_is k d q)) a

-- one watch more
module _ (at count : ℕ) (old ls : List WatchState) (n : ℕ) (h : HaveLeft at count old ls n) (some : 0 < n) (below : List WatchState) (is_below : below ≡ take (n - 1) ls) where
  le : n - 1 ≤ length old
  le = let w = h.within in omega arith

  there : n - 1 < length ls
  there = let w = h.within in let l = h.long in omega arith

  pub below_is : below ≡ take (n - 1) old
  below_is = is_below ∙ sym (take-take (n - 1) n ls (omega arith)) ∙ ap (take (n - 1)) h.rest ∙ take-take (n - 1) n old (omega arith)

  pub here_is : (d : WatchState) → get_or ls (n - 1) d ≡ get_or old (n - 1) d
  here_is d = sym (get_or-take n ls (n - 1) d (omega arith)) ∙ ap (λ ws. get_or ws (n - 1) d) h.rest ∙ get_or-take n old (n - 1) d (omega arith)

  module _ (inside : AreInside old) (link : WatchState) (d : WatchState) (is_link : link ≡ get_or ls (n - 1) d) where
    link_is : link ≡ get_or old (n - 1) d
    link_is = is_link ∙ here_is d

    pub next_source : ForSome link.source (λ s. s < n - 1)
    next_source s e = let w = h.within in inside.sources (n - 1) s d (omega arith) (ap (λ (l : WatchState). l.source) (sym link_is) ∙ e)

    pub next_within : ForSome link.source (λ s. (e : WatchState) → All (λ i. i < length (get_or below s e).kept) link.kept)
    next_within s is e =
        let w = h.within in
        let src = ap (λ (l : WatchState). l.source) (sym link_is) ∙ is in
        let p = inside.sources (n - 1) s d (omega arith) src in
        let same : get_or below s e ≡ get_or old s e = ap (λ ws. get_or ws s e) below_is ∙ get_or-take (n - 1) old s e p in
        subst (λ (l : WatchState). All (λ i. i < length l.kept) link.kept) (sym same)
        (subst (λ (l : WatchState). All (λ i. i < length (get_or old s e).kept) l.kept) (sym link_is) (inside.within (n - 1) s d e (omega arith) src))

    goes_same : (j : ℕ) → goes_at at count below link.source j ≡ goes_at at count old link.source j
    goes_same j = ap (is_inside at count) (ap (λ ws. place_in_root ws link.source j) below_is ∙ places_prefix old (n - 1) link.source j next_source)

    pub next_left : (new : WatchState) → HasTaken count 0 link new → new.kept ≡ kept_left (goes_at at count below link.source) link.kept → new.answer ≡ went at count (places_among at count below link) → HaveLeft at count old (set ls (n - 1) new) (n - 1)
    next_left new taken kept answer = record {
      long = length-set ls (n - 1) new ∙ h.long;
      within = le;
      rest = take-set ls (n - 1) new ∙ sym is_below ∙ below_is;
      taken = λ k e p q. elim (cases_eq k (n - 1)) [
        | inl same ↦
            subst (λ j. HasTaken count 0 (get_or old j e) (get_or (set ls (n - 1) new) j e)) (sym same)
            (subst (HasTaken count 0 (get_or old (n - 1) e)) (sym (get_or-set_same ls (n - 1) new e there)) (subst (λ w. HasTaken count 0 w new) (any e) taken))
        | inr ne ↦ subst (HasTaken count 0 (get_or old k e)) (sym (get_or-set_other ls (n - 1) k new e ne)) (h.taken k e (omega arith) q)
      ];
      kept = λ k e p q. elim (cases_eq k (n - 1)) [
        | inl same ↦
            subst (λ j. (get_or (set ls (n - 1) new) j e).kept ≡ kept_left (goes_at at count old (get_or old j e).source) (get_or old j e).kept) (sym same)
            (ap (λ (w : WatchState). w.kept) (get_or-set_same ls (n - 1) new e there) ∙ kept ∙ kept_alike (goes_at at count below link.source) (goes_at at count old link.source) goes_same link.kept
            ∙ ap (λ (w : WatchState). kept_left (goes_at at count old w.source) w.kept) (any e))
        | inr ne ↦ ap (λ (w : WatchState). w.kept) (get_or-set_other ls (n - 1) k new e ne) ∙ h.kept k e (omega arith) q
      ];
      answer = λ k e p q. elim (cases_eq k (n - 1)) [
        | inl same ↦
            subst (λ j. (get_or (set ls (n - 1) new) j e).answer ≡ went at count (places_among at count old (get_or old j e))) (sym same)
            (ap (λ (w : WatchState). w.answer) (get_or-set_same ls (n - 1) new e there) ∙ answer
            ∙ ap (went at count) (filter_agree (λ i. goes_at at count below link.source (get_or link.kept i 0)) (λ i. goes_at at count old link.source (get_or link.kept i 0)) (λ i. goes_same (get_or link.kept i 0)) (numbers (length link.kept)))
            ∙ ap (λ (w : WatchState). went at count (places_among at count old w)) (any e))
        | inr ne ↦ ap (λ (w : WatchState). w.answer) (get_or-set_other ls (n - 1) k new e ne) ∙ h.answer k e (omega arith) q
      ];
    }
      where
        any : (e : WatchState) → link ≡ get_or old (n - 1) e
        any e = let w = h.within in link_is ∙ get_or_default old (n - 1) d e (omega arith)

-- what is seen through watches that have left out what went, is what of their rows stays
module _ (schema : List Attribute) (before rows : List (List Datum)) (at count : ℕ) (old new : List WatchState) (le : at + count ≤ length before) (made : rows ≡ take at before ++ drop (at + count) before)
    (h : AreNow schema before old) (left : AreLeft at count old new) where
  new_sources : (k s : ℕ) (d : WatchState) → k < length new → (get_or new k d).source ≡ Some s → s < k
  new_sources k s d p e =
      let l = left.taken.long in
      let q : k < length old = omega arith in
      h.sources k s d q (sym ((left.taken.each k d q).followed.source) ∙ e)

  pub seen_left : (fuel : ℕ) (over : Option ℕ) (d : WatchState) → ForSome over (λ s. (s < length old) × (s < fuel)) → seen rows new over ≡ rows_left (goes_at at count old over) (seen before old over)
  seen_left fuel None d below = made ∙ rows_span at count before le
  seen_left zero (Some s) d below = absurd (let p = (below s refl).1 in omega arith)
  seen_left (suc fuel) (Some s) d below =
      let p = (below s refl).0 in
      let l = left.taken.long in
      let q : s < length new = omega arith in
      let src = (get_or old s d).source in
      let kept = (get_or old s d).kept in
      let gone : ℕ → Bool = goes_at at count old src in
      let linked = now_linked schema before old h in
      let below_src : ForSome src (λ t. (t < length old) × (t < fuel)) = λ t e. let u = h.sources s t d p e in let v = (below s refl).1 in (omega arith, omega arith) in
      let old_rows = seen_at before old h.sources s d p in
      let size = ap length old_rows ∙ length-map kept (λ i. get_or (seen before old src) i []) in
      seen_at rows new new_sources s d q
      ∙ ap (λ o. rows_at (seen rows new o) (get_or new s d).kept) ((left.taken.each s d p).followed.source)
      ∙ ap (rows_at (seen rows new src)) (left.kept s d p)
      ∙ ap (λ rs. rows_at rs (kept_left gone kept)) (seen_left fuel src d below_src)
      ∙ left_rows gone (seen before old src) kept (λ k g. let r = place_of kept k g in let a = linked.within s d p r.0 0 r.1 in let b = r.2 0 in omega arith)
      ∙ ap (rows_left (λ j. gone (get_or kept j 0))) (sym old_rows)
      ∙ rows_alike (λ j. gone (get_or kept j 0)) (goes_at at count old (Some s)) (seen before old (Some s)) (λ j g. ap (is_inside at count) (sym (place_at old h.sources s d p j (omega arith))))

  pub left_now : length rows ≤ max_rows → AreNow schema rows new
  left_now few = record {
    small = few;
    sources = new_sources;
    asked = λ k d p.
        let l = left.taken.long in
        let q : k < length old = omega arith in
        subst (IsAsked schema) (sym ((left.taken.each k d q).followed.op)) (h.asked k d q);
    now = λ k d p.
        let l = left.taken.long in
        let q : k < length old = omega arith in
        let src = (get_or old k d).source in
        let op = (get_or old k d).op in
        let below : ForSome src (λ s. (s < length old) × (s < length old)) = λ s e. let a = h.sources k s d q e in (omega arith, omega arith) in
        left.kept k d q ∙ ap (kept_left (goes_at at count old src)) (h.now k d q) ∙ positions_left schema op (goes_at at count old src) (seen before old src)
        ∙ ap (positions schema op) (sym (seen_left (length old) src d below))
        ∙ ap (λ o. positions schema o (seen rows new src)) (sym ((left.taken.each k d q).followed.op))
        ∙ ap (λ o. positions schema (get_or new k d).op (seen rows new o)) (sym ((left.taken.each k d q).followed.source));
  }

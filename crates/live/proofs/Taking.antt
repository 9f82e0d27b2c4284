-- A watch that is put behind the others, and one that is taken out.
use Rattle.std.proofs.Common.{◌≡◌, ◌≢◌, ℕ, zero, suc, ◌+◌, ◌<◌, ◌≤◌, List, [], ◌∷◌, ◌++◌, length, get_or, All, Option, Some, None, refl, ap, sym, subst, ◌∙◌, arith, inl, inr}
use Rattle.std.specs.List.{remove}
use Rattle.std.specs.Option.{ForSome, option_map}
use Rattle.std.proofs.lemmas.Bool.{cases_lt}
use Rattle.std.proofs.lemmas.Bool.Decides.{nat_tests}
use Rattle.std.proofs.lemmas.List.{get_or-map, get_or_append_left, get_or_push, length-append, length-map, take_at}
use Rattle.std.proofs.lemmas.List.Edits.{length-remove}
use Rattle.mk_value.specs.Data.{Datum}
use Rattle.mk_value.specs.Heading.{Attribute}
use Rattle.relations.specs.Rows.{rows_at}
use Rattle.live.specs.Chains.{AreInOrder, AreInside, AreNow, seen}
use Rattle.live.specs.Numbers.{over_of, place_of}
use Rattle.live.specs.Placing.{closed, opened}
use Rattle.live.specs.Putting.{closed_source, without_watch}
use Rattle.live.specs.States.{WatchState}
use Rattle.live.specs.Watching.{IsAsked, positions}
use Rattle.live.proofs.Along.{some_watch}
use Rattle.live.proofs.Picks.{closed_opened, opened_apart, row_closed}
use Rattle.live.proofs.Seeing.{seen_at, seen_prefix}

-- what is seen through the watches that were there
seen_pushed : (rows : List (List Datum)) (watches : List WatchState) (w : WatchState) (over : Option ℕ) → ForSome over (λ s. s < length watches) → seen rows (watches ++ w ∷ []) over ≡ seen rows watches over
seen_pushed rows watches w over below =
    sym (seen_prefix rows (watches ++ w ∷ []) (length watches) over below) ∙ ap (λ ws. seen rows ws over) (take_at watches (w ∷ []) (length watches) refl)

-- a source that is named is there
pub over_below : (watches : List WatchState) (source : Option ℕ) → ForSome source (λ n. place_of watches n < length watches) → ForSome (over_of watches source) (λ s. s < length watches)
over_below watches None there s e = cc
over_below watches (Some n) there s e = let same : place_of watches n ≡ s = cc in subst (λ k. k < length watches) same (there n refl)

-- one watch more
module _ (schema : List Attribute) (rows : List (List Datum)) (watches : List WatchState) (h : AreNow schema rows watches) (w : WatchState) (below : ForSome w.source (λ s. s < length watches)) (asked : IsAsked schema w.op)
    (now : w.kept ≡ positions schema w.op (seen rows watches w.source)) where
  abbrev all : List WatchState
  all = watches ++ w ∷ []

  at_end : (k : ℕ) (d : WatchState) → k < length all → length watches ≤ k → get_or all k d ≡ w
  at_end k d p q = let long = length-append watches (w ∷ []) in get_or_push watches w d k (omega arith)

  pub now_pushed : AreNow schema rows (watches ++ w ∷ [])
  now_pushed = record {
    small = h.small;
    sources = λ k s d p e. elim (cases_lt k (length watches)) [
      | inl q ↦ h.sources k s d q (ap (λ (v : WatchState). v.source) (sym (get_or_append_left watches (w ∷ []) d k q)) ∙ e)
      | inr q ↦ let a = below s (ap (λ (v : WatchState). v.source) (sym (at_end k d p q)) ∙ e) in omega arith
    ];
    asked = λ k d p. elim (cases_lt k (length watches)) [
      | inl q ↦ subst (λ (v : WatchState). IsAsked schema v.op) (sym (get_or_append_left watches (w ∷ []) d k q)) (h.asked k d q)
      | inr q ↦ subst (λ (v : WatchState). IsAsked schema v.op) (sym (at_end k d p q)) asked
    ];
    now = λ k d p. elim (cases_lt k (length watches)) [
      | inl q ↦
          subst (λ (v : WatchState). v.kept ≡ positions schema v.op (seen rows all v.source)) (sym (get_or_append_left watches (w ∷ []) d k q))
          (h.now k d q ∙ ap (positions schema (get_or watches k d).op) (sym (seen_pushed rows watches w (get_or watches k d).source (λ s e. let a = h.sources k s d q e in omega arith))))
      | inr q ↦
          subst (λ (v : WatchState). v.kept ≡ positions schema v.op (seen rows all v.source)) (sym (at_end k d p q))
          (now ∙ ap (positions schema w.op) (sym (seen_pushed rows watches w w.source below)))
    ];
  }

-- places behind the one that is out move down in order
closed_less : (j t k : ℕ) → t ≢ j → k ≢ j → t < k → closed j t < closed j k
closed_less j t k a b p = grind (arith, nat_tests)

moved_from : (j : ℕ) (o : Option ℕ) (u : ℕ) → option_map (closed j) o ≡ Some u → (t : ℕ) × (o ≡ Some t) × (closed j t ≡ u)
moved_from j None u e = cc
moved_from j (Some t) u e = (t, refl, let f : closed j t ≡ u = cc in f)

opened_below : (j k n : ℕ) → k + 1 < n + 1 → j < n + 1 → opened j k < n + 1
opened_below j k n p q = grind (arith, nat_tests)

closed_below_length : (j k n : ℕ) → k ≢ j → k < n + 1 → j < n + 1 → closed j k < n
closed_below_length j k n a p q = grind (arith, nat_tests)

-- the watches without one that no watch stands over
module _ (watches : List WatchState) (j : ℕ) (there : j < length watches) (order : AreInOrder watches) (free : All (λ (w : WatchState). w.source ≢ Some j) watches) where
  abbrev left : List WatchState
  left = without_watch j watches

  pub left_length : length left + 1 ≡ length watches
  left_length = let a = length-map (remove watches j) (closed_source j) in let b = length-remove watches j there in omega arith

  -- the watch at a place, once one is out
  pub left_at : (k : ℕ) (d : WatchState) → k ≢ j → k < length watches → get_or left (closed j k) d ≡ closed_source j (get_or watches k d)
  left_at k d ne p =
      let a = length-remove watches j there in
      get_or-map (closed_source j) (remove watches j) (closed j k) d d (closed_below_length j k (length (remove watches j)) ne (omega arith) (omega arith))
      ∙ ap (closed_source j) (row_closed d watches j there k ne p)

  -- each place left is that of a watch
  pub left_from : (k : ℕ) (d : WatchState) → k < length left → get_or left k d ≡ closed_source j (get_or watches (opened j k) d)
  left_from k d p =
      let a = left_length in
      ap (λ i. get_or left i d) (sym (closed_opened j k)) ∙ left_at (opened j k) d (opened_apart j k) (let b = opened_below j k (length left) (omega arith) (omega arith) in omega arith)

  from_there : (k : ℕ) → k < length left → opened j k < length watches
  from_there k p = let a = left_length in let b = opened_below j k (length left) (omega arith) (omega arith) in omega arith

  apart : (k t : ℕ) (d : WatchState) → k < length watches → (get_or watches k d).source ≡ Some t → t ≢ j
  apart k t d p e same = free k d p (e ∙ ap Some same)

  pub left_order : AreInOrder left
  left_order k u d p e =
      let k0 = opened j k in
      let q = from_there k p in
      let r = moved_from j (get_or watches k0 d).source u (ap (λ (w : WatchState). w.source) (sym (left_from k d p)) ∙ e) in
      let less = closed_less j r.0 k0 (apart k0 r.0 d q r.1) (opened_apart j k) (order k0 r.0 d q r.1) in
      let here = closed_opened j k in
      let there = r.2 in
      omega arith

  -- what is seen through the others stays
  pub left_seen : (rows : List (List Datum)) (fuel : ℕ) (over : Option ℕ) → ForSome over (λ s. (s < length watches) × (s ≢ j) × (s < fuel)) → seen rows left (option_map (closed j) over) ≡ seen rows watches over
  left_seen rows fuel None ok = refl
  left_seen rows zero (Some s) ok = absurd (let a = (ok s refl).2 in omega arith)
  left_seen rows (suc fuel) (Some s) ok =
      let p = (ok s refl).0 in
      let ne = (ok s refl).1 in
      let d = some_watch watches s p in
      let src = (get_or watches s d).source in
      let kept = (get_or watches s d).kept in
      let at = left_at s d ne p in
      let a = left_length in
      let in_left : closed j s < length left = closed_below_length j s (length left) ne (omega arith) (omega arith) in
      let earlier : ForSome src (λ t. (t < length watches) × (t ≢ j) × (t < fuel)) = λ t e.
      let b = order s t d p e in
      let c = (ok s refl).2 in
      (omega arith, apart s t d p e, omega arith) in
      seen_at rows left left_order (closed j s) d in_left
      ∙ ap (λ (w : WatchState). rows_at (seen rows left w.source) w.kept) at
      ∙ ap (λ xs. rows_at xs kept) (left_seen rows fuel src earlier)
      ∙ sym (seen_at rows watches order s d p)

  source_ok : (k : ℕ) (d : WatchState) → k < length watches → ForSome (get_or watches k d).source (λ s. (s < length watches) × (s ≢ j) × (s < length watches))
  source_ok k d p s e = let a = order k s d p e in (omega arith, apart k s d p e, omega arith)

  pub left_now : (schema : List Attribute) (rows : List (List Datum)) → AreNow schema rows watches → AreNow schema rows left
  left_now schema rows h = record {
    small = h.small;
    sources = left_order;
    asked = λ k d p. subst (λ (w : WatchState). IsAsked schema w.op) (sym (left_from k d p)) (h.asked (opened j k) d (from_there k p));
    now = λ k d p.
        let q = from_there k p in
        let w = get_or watches (opened j k) d in
        subst (λ (v : WatchState). v.kept ≡ positions schema v.op (seen rows left v.source)) (sym (left_from k d p))
        (h.now (opened j k) d q ∙ ap (positions schema w.op) (sym (left_seen rows (length watches) w.source (source_ok (opened j k) d q))));
  }

  pub left_inside : AreInside watches → AreInside left
  left_inside h = record {
    sources = left_order;
    within = λ k u d e p is.
        let k0 = opened j k in
        let q = from_there k p in
        let r = moved_from j (get_or watches k0 d).source u (ap (λ (w : WatchState). w.source) (sym (left_from k d p)) ∙ is) in
        let near = order k0 r.0 d q r.1 in
        let kept : (get_or left u e).kept ≡ (get_or watches r.0 e).kept =
        ap (λ i. (get_or left i e).kept) (sym r.2) ∙ ap (λ (w : WatchState). w.kept) (left_at r.0 e (apart k0 r.0 d q r.1) (omega arith)) in
        subst (λ (w : WatchState). All (λ i. i < length (get_or left u e).kept) w.kept) (sym (left_from k d p))
        (subst (λ ks. All (λ i. i < length ks) (get_or watches k0 d).kept) (sym kept) (h.within k0 r.0 d e q r.1));
  }

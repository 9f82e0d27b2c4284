-- A run of equal keys has all rows of its key.
use Rattle.std.proofs.Common.{◌≡◌, ℕ, zero, suc, ◌+◌, ◌-◌, ◌<◌, ◌≤◌, Bool, true, false, not, ◌&&◌, if◌then◌else◌, ltb, List, [], ◌∷◌, length, get_or, take, drop, None, refl, ap, sym, subst, ◌∙◌, arith, inl, inr}
use Rattle.std.specs.List.{count_by}
use Rattle.std.specs.declared.cmp.Ordering.{Ordering}
use Rattle.std.specs.declared.cmp.Ordering.TheVariants.{Less, Equal, Greater}
use Rattle.std.specs.Ordering.{is_eq, nat_cmp, ordering_reverse, ordering_then}
use Rattle.std.specs.Cmp.{IsTotalOrder, on_total}
use Rattle.std.proofs.lemmas.Bool.{cases_eq, cases_lt, le-ltb, lt-ltb}
use Rattle.std.proofs.lemmas.Cmp.{tied_itself}
use Rattle.std.proofs.lemmas.List.{get_or-drop, get_or-take, get_or_default, length-drop, length-map, length-take-le}
use Rattle.std.proofs.lemmas.List.Sums.{length-filter}
use Rattle.mk_value.specs.Data.{Datum}
use Rattle.mk_value.specs.Heading.{Attribute}
use Rattle.relations.specs.Positions.{passing}
use Rattle.relations.specs.Sorting.{row_cmp}
use Rattle.relations.specs.declared.criteria.Key.{Key}
use Rattle.relations.proofs.Ascending.{IsIn, ascends_from_pairs, in_at, place_of}
use Rattle.relations.proofs.Filtering.{rows_passing}
use Rattle.relations.proofs.RowOrder.{row_cmp_total}
use Rattle.live.specs.Watching.{position_cmp, positions}
use Rattle.live.specs.declared.op.WatchOp.TheVariants.{Sort}
use Rattle.live.proofs.Ops.{equal_total}
use Rattle.live.proofs.Picks.{ArePicked, picked_same}
use Rattle.live.proofs.Placing.{pairs_from_ascends, picked_passing, picked_positions}
use Rattle.live_counts.specs.Counting.{AreCounts}
use Rattle.live_counts.specs.Runs.{flags, raised, ties}
use Rattle.live_counts.specs.States.{CountsState}
use Rattle.live_counts.proofs.Flagging.{IsUpTo, ends_tie, length-flags}
use Rattle.live_counts.proofs.Following.{flag_at}
use Rattle.live_counts.proofs.Numbering.{are_raised, raised_in, raised_order}

not_true : (b : Bool) → not b ≡ true → b ≡ false
not_true false e = refl
not_true true e = cc

not_false_is : (b : Bool) → not b ≡ false → b ≡ true
not_false_is true e = refl
not_false_is false e = cc

and_no : (a : Bool) → (a && false) ≡ false
and_no true = refl
and_no false = refl

eq_from : (o : Ordering) → is_eq o ≡ true → o ≡ Equal
eq_from Equal e = refl
eq_from Less e = cc
eq_from Greater e = cc

reversed_eq : (o : Ordering) → is_eq (ordering_reverse o) ≡ is_eq o
reversed_eq Less = refl
reversed_eq Equal = refl
reversed_eq Greater = refl

then_less : (o p : Ordering) → o ≡ Equal → ordering_then o p ≡ Less → p ≡ Less
then_less Equal p e f = f
then_less Less p e f = cc
then_less Greater p e f = cc

up_to : (o p : Ordering) → ordering_then o p ≡ Less → IsUpTo o
up_to Less p e = tt
up_to Equal p e = tt
up_to Greater p e = cc

up_less : (o : Ordering) → IsUpTo o → is_eq o ≡ false → o ≡ Less
up_less Less u e = refl
up_less Equal u e = cc
up_less Greater u e = absurd u

module _ (schema : List Attribute) (keys : List Key) (rows : List (List Datum)) where
  abbrev kept : List ℕ
  kept = positions schema (Sort keys) rows

  abbrev cmp : ℕ → ℕ → Ordering
  cmp i j = row_cmp schema keys (get_or rows i []) (get_or rows j [])

  abbrev same : ℕ → ℕ → Bool
  same = ties schema (Sort keys) rows

  abbrev fs : List Bool
  fs = flags same kept

  abbrev key : ℕ → ℕ
  key k = get_or kept k 0

  total : IsTotalOrder cmp
  total = on_total (λ i. get_or rows i []) (row_cmp_total schema keys)

  long : length fs ≡ length kept
  long = length-flags same None kept

  ordered : (i j : ℕ) → i < j → j < length kept → position_cmp schema (Sort keys) rows (key i) (key j) ≡ Less
  ordered i j p q = pairs_from_ascends (position_cmp schema (Sort keys) rows) kept (picked_positions schema (Sort keys) rows).ascends i j 0 p q

  rising : (i j : ℕ) → i < j → j < length kept → IsUpTo (cmp (key i) (key j))
  rising i j p q = up_to (cmp (key i) (key j)) (nat_cmp (key i) (key j)) (ordered i j p q)

  between : (a b c : ℕ) → a < b → b < c → c < length kept → same (key a) (key c) ≡ (same (key a) (key b) && same (key b) (key c))
  between a b c p q r = ends_tie cmp total (key a) (key b) (key c) (rising a b p (omega arith)) (rising b c q r)

  -- what stands before a run has another key
  before_apart : (k s : ℕ) → k < s → s < length kept → get_or fs s false ≡ true → same (key k) (key s) ≡ false
  before_apart k s p q up =
      let edge : same (key (s - 1)) (key s) ≡ false = not_true (same (key (s - 1)) (key s)) (flag_at same kept s q (λ e. absurd (omega arith)) ∙ up) in
      elim (cases_lt k (s - 1)) [
        | inl far ↦ between k (s - 1) s far (omega arith) q ∙ ap (λ b. same (key k) (key (s - 1)) && b) edge ∙ and_no (same (key k) (key (s - 1)))
        | inr near ↦ ap (λ j. same (key j) (key s)) (let e : k ≡ s - 1 = omega arith in e) ∙ edge
      ]

  -- and so has what stands behind it
  behind_apart : (s e k : ℕ) → s < e → e ≤ k → k < length kept → get_or fs e false ≡ true → same (key s) (key k) ≡ false
  behind_apart s e k p q r up =
      let edge = before_apart s e p (omega arith) up in
      elim (cases_lt e k) [
        | inl far ↦ between s e k p far r ∙ ap (λ b. b && same (key e) (key k)) edge
        | inr near ↦ ap (λ j. same (key s) (key j)) (let f : k ≡ e = omega arith in f) ∙ edge
      ]

  tied_here : (k : ℕ) → same (key k) (key k) ≡ true
  tied_here k = ap is_eq (tied_itself total (key k))

  -- within a run all have one key
  run_tied : (s m : ℕ) → s + m < length kept → ((j : ℕ) → s < j → j ≤ s + m → get_or fs j false ≡ false) → same (key s) (key (s + m)) ≡ true
  run_tied s zero p down = ap (λ j. same (key s) (key j)) (let e : s + 0 ≡ s = omega arith in e) ∙ tied_here s
  run_tied s (suc m) p down =
      let last : s + suc m ≡ suc (s + m) = omega arith in
      let step : same (key (s + suc m - 1)) (key (s + suc m)) ≡ true =
      not_false_is (same (key (s + suc m - 1)) (key (s + suc m))) (flag_at same kept (s + suc m) p (λ e. absurd (omega arith)) ∙ down (s + suc m) (omega arith) (omega arith)) in
      let edge : same (key (s + m)) (key (s + suc m)) ≡ true = ap (λ j. same (key j) (key (s + suc m))) (let e : s + m ≡ s + suc m - 1 = omega arith in e) ∙ step in
      let rest = run_tied s m (omega arith) (λ j a b. down j a (omega arith)) in
      elim (cases_eq m 0) [
        | inl e ↦ ap (λ j. same (key j) (key (s + suc m))) (let f : s ≡ s + m = omega arith in f) ∙ edge
        | inr ne ↦ between s (s + m) (s + suc m) (omega arith) (omega arith) p ∙ ap (λ b. b && same (key (s + m)) (key (s + suc m))) rest ∙ edge
      ]

  same_back : (a b : ℕ) → same a b ≡ same b a
  same_back a b = ap is_eq (total.antisymm a b) ∙ reversed_eq (cmp b a)

  -- a run from a raised flag to the next, or to the end
  module _ (s e : ℕ) (some : s < e) (most : e ≤ length kept) (up : get_or fs s false ≡ true) (ends : (e < length kept) → get_or fs e false ≡ true) (down : (j : ℕ) → s < j → j < e → get_or fs j false ≡ false) where
    abbrev run : List ℕ
    run = take (e - s) (drop s kept)

    abbrev has_key : List Datum → Bool
    has_key row = is_eq (row_cmp schema keys row (get_or rows (key s) []))

    run_long : length run ≡ e - s
    run_long = let n = length-drop s kept in length-take-le (e - s) (drop s kept) (omega arith)

    run_at : (i d : ℕ) → i < e - s → get_or run i d ≡ key (s + i)
    run_at i d p = let n = length-drop s kept in get_or-take (e - s) (drop s kept) i d p ∙ get_or-drop s kept i d ∙ get_or_default kept (s + i) d 0 (omega arith)

    tied_in : (i j : ℕ) → i ≤ j → s ≤ i → j < e → same (key i) (key j) ≡ true
    tied_in i j p q r =
        let f : i + (j - i) ≡ j = omega arith in
        ap (λ k. same (key i) (key k)) (sym f) ∙ run_tied i (j - i) (omega arith) (λ k a b. down k (omega arith) (omega arith))

    key_of : (k : ℕ) → k < length kept → has_key (get_or rows (key k) []) ≡ true → (s ≤ k) × (k < e)
    key_of k p h = elim (cases_lt k s) [
      | inl low ↦ absurd (clash (sym h ∙ before_apart k s low (omega arith) up))
      | inr high ↦ elim (cases_lt k e) [
        | inl in_run ↦ (omega arith, in_run)
        | inr past ↦ absurd (clash (sym h ∙ same_back (key k) (key s) ∙ behind_apart s e k some (omega arith) p (ends (omega arith))))
      ]
    ]
      where
        clash : true ≡ false → ⊥
        clash f = cc

    picked : ArePicked has_key (λ a b. Equal) [] rows run
    picked = record {
      ascends = ascends_from_pairs nat_cmp run (λ i j d p q.
          let n = run_long in
          let a = run_at i d (omega arith) in
          let b = run_at j d (omega arith) in
          let tie = eq_from (cmp (key (s + i)) (key (s + j))) (tied_in (s + i) (s + j) (omega arith) (omega arith) (omega arith)) in
          ap (λ x. nat_cmp x (get_or run j d)) a ∙ ap (nat_cmp (key (s + i))) b ∙ then_less (cmp (key (s + i)) (key (s + j))) (nat_cmp (key (s + i)) (key (s + j))) tie (ordered (s + i) (s + j) (omega arith) (omega arith)));
      inside = λ x h.
          let r = place_of run x h in
          let n = run_long in
          let p = r.1 in
          let at : key (s + r.0) ≡ x = sym (run_at r.0 0 (omega arith)) ∙ r.2 0 in
          let within = ((picked_positions schema (Sort keys) rows).inside (key (s + r.0)) (in_at kept (s + r.0) 0 (omega arith))).0 in
          subst (λ y. (y < length rows) × (has_key (get_or rows y []) ≡ true)) at (within, same_back (key (s + r.0)) (key s) ∙ tied_in s (s + r.0) (omega arith) (omega arith) (omega arith));
      whole = λ x q t.
          let r = place_of kept x ((picked_positions schema (Sort keys) rows).whole x q refl) in
          let here : key r.0 ≡ x = r.2 0 in
          let span = key_of r.0 r.1 (ap (λ y. has_key (get_or rows y [])) here ∙ t) in
          let n = run_long in
          let low = span.0 in
          let high = span.1 in
          let near : r.0 - s < length run = omega arith in
          subst (λ y. IsIn y run) (run_at (r.0 - s) 0 (omega arith) ∙ ap key (let f : s + (r.0 - s) ≡ r.0 = omega arith in f) ∙ here) (in_at run (r.0 - s) 0 near);
    }

    pub run_counts : e - s ≡ count_by has_key rows
    run_counts =
        sym run_long ∙ ap length (picked_same has_key (λ a b. Equal) equal_total [] rows run (passing has_key [] rows) picked (picked_passing has_key [] rows))
        ∙ sym (length-map (passing has_key [] rows) (λ i. get_or rows i [])) ∙ ap length (rows_passing has_key [] rows) ∙ length-filter has_key rows

  -- the runs by their numbers
  abbrev begin : ℕ → ℕ
  begin i = get_or (raised fs) i 0

  abbrev end : ℕ → ℕ
  end i = if ltb (i + 1) (length (raised fs)) then get_or (raised fs) (i + 1) 0 else length kept

  up_at : (i : ℕ) → i < length (raised fs) → get_or fs (begin i) false ≡ true
  up_at i p = ((are_raised fs).inside (begin i) (in_at (raised fs) i 0 p)).1

  -- a flag that is raised is one of them
  number_of : (j : ℕ) → j < length kept → get_or fs j false ≡ true → (k : ℕ) × (k < length (raised fs)) × (begin k ≡ j)
  number_of j p h = let r = place_of (raised fs) j ((are_raised fs).whole j (let n = long in omega arith) h) in (r.0, r.1, r.2 0)

  rising_begins : (i k : ℕ) → i < k → k < length (raised fs) → begin i < begin k
  rising_begins i k p q = raised_order fs i k 0 p q

  end_next : (i : ℕ) → i + 1 < length (raised fs) → end i ≡ begin (i + 1)
  end_next i p = ap (λ b. if b then get_or (raised fs) (i + 1) 0 else length kept) (lt-ltb (i + 1) (length (raised fs)) p)

  end_last : (i : ℕ) → length (raised fs) ≤ i + 1 → end i ≡ length kept
  end_last i p = ap (λ b. if b then get_or (raised fs) (i + 1) 0 else length kept) (le-ltb (i + 1) (length (raised fs)) p)

  lowered : (j : ℕ) → (get_or fs j false ≡ true → ⊥) → get_or fs j false ≡ false
  lowered j away = from (get_or fs j false) away
    where
      from : (b : Bool) → (b ≡ true → ⊥) → b ≡ false
      from false f = refl
      from true f = absurd (f refl)

  pub counted_run : (i : ℕ) → i < length (raised fs) → end i - begin i ≡ count_by (λ row. is_eq (row_cmp schema keys row (get_or rows (key (begin i)) []))) rows
  counted_run i p = elim (cases_lt (i + 1) (length (raised fs))) [
    | inl next ↦
        let e = end_next i next in
        let n = long in
        let inside = raised_in fs (i + 1) 0 next in
        let less = rising_begins i (i + 1) (omega arith) next in
        ap (λ x. x - begin i) e
        ∙ run_counts (begin i) (begin (i + 1)) less (omega arith) (up_at i p) (λ q. up_at (i + 1) next) (λ j a b. lowered j (λ h.
        let r = number_of j (omega arith) h in
        let at = r.2 in
        elim (cases_lt r.0 (i + 1)) [
          | inl low ↦ elim (cases_eq r.0 i) [ inl same_i ↦ let f = ap begin same_i in omega arith | inr ne ↦ let f = rising_begins r.0 i (omega arith) p in omega arith ]
          | inr high ↦ elim (cases_eq r.0 (i + 1)) [ inl same_i ↦ let f = ap begin same_i in omega arith | inr ne ↦ let f = rising_begins (i + 1) r.0 (omega arith) r.1 in omega arith ]
        ]))
    | inr none ↦
        let e = end_last i (omega arith) in
        let n = long in
        let inside = raised_in fs i 0 p in
        ap (λ x. x - begin i) e
        ∙ run_counts (begin i) (length kept) (omega arith) (omega arith) (up_at i p) (λ q. absurd (omega arith)) (λ j a b. lowered j (λ h.
        let r = number_of j b h in
        let at = r.2 in
        let q = r.1 in
        elim (cases_eq r.0 i) [ inl same_i ↦ let f = ap begin same_i in omega arith | inr ne ↦ let f = rising_begins r.0 i (omega arith) p in omega arith ]))
  ]

  -- each row is in a run
  record IsInRun (k : ℕ) : Type 0 where
    run : ℕ
    there : run < length (raised fs)
    behind : begin run ≤ k
    tied : same (key (begin run)) (key k) ≡ true

  raised_run : (k : ℕ) → k < length kept → get_or fs k false ≡ true → IsInRun k
  raised_run k p h =
      let r = number_of k p h in
      record { run = r.0; there = r.1; behind = (let e = r.2 in omega arith); tied = ap (λ j. same (key j) (key k)) r.2 ∙ tied_here k }

  flag_first : 0 < length kept → get_or fs 0 false ≡ true
  flag_first p = first kept p
    where
      first : (ks : List ℕ) → 0 < length ks → get_or (flags same ks) 0 false ≡ true
      first [] q = absurd (omega arith)
      first (k ∷ ks) q = refl

  next_run : (k : ℕ) → suc k < length kept → IsInRun k → (b : Bool) → get_or fs (suc k) false ≡ b → IsInRun (suc k)
  next_run k p before true h = raised_run (suc k) p h
  next_run k p before false h =
      let near : suc k - 1 ≡ k = omega arith in
      let edge : same (key k) (key (suc k)) ≡ true =
      ap (λ j. same (key j) (key (suc k))) (sym near) ∙ not_false_is (same (key (suc k - 1)) (key (suc k))) (flag_at same kept (suc k) p (λ e. absurd (omega arith)) ∙ h) in
      let low = before.behind in
      record {
        run = before.run;
        there = before.there;
        behind = omega arith;
        tied = elim (cases_eq (begin before.run) k) [
          | inl e ↦ ap (λ j. same (key j) (key (suc k))) e ∙ edge
          | inr ne ↦ between (begin before.run) k (suc k) (omega arith) (omega arith) p ∙ ap (λ b. b && same (key k) (key (suc k))) before.tied ∙ edge
        ];
      }

  run_of : (k : ℕ) → k < length kept → IsInRun k
  run_of zero p = raised_run 0 p (flag_first p)
  run_of (suc k) p = next_run k p (run_of k (omega arith)) (get_or fs (suc k) false) refl

  -- the first row of a run stands among the rows
  pub first_within : (i : ℕ) → i < length (raised fs) → key (begin i) < length rows
  first_within i p =
      let q = raised_in fs i 0 p in
      let n = long in
      ((picked_positions schema (Sort keys) rows).inside (key (begin i)) (in_at kept (begin i) 0 (omega arith))).0

  -- and each row has the key of one
  pub row_in_run : (r : ℕ) → r < length rows → (i : ℕ) × (i < length (raised fs)) × (is_eq (row_cmp schema keys (get_or rows (key (begin i)) []) (get_or rows r [])) ≡ true)
  row_in_run r p =
      let k = place_of kept r ((picked_positions schema (Sort keys) rows).whole r p refl) in
      let here = run_of k.0 k.1 in
      (here.run, here.there, subst (λ x. same (key (begin here.run)) x ≡ true) (k.2 0) here.tied)

  -- keys ascend
  pub keys_rise : (i k : ℕ) → i < k → k < length (raised fs) → cmp (key (begin i)) (key (begin k)) ≡ Less
  keys_rise i k p q =
      let less = rising_begins i k p q in
      let inside = raised_in fs k 0 q in
      let n = long in
      up_less (cmp (key (begin i)) (key (begin k))) (rising (begin i) (begin k) less (omega arith)) (before_apart (begin i) (begin k) less (omega arith) (up_at k q))

-- counts by keys
pub with_kept : (schema : List Attribute) (keys : List Key) (rows : List (List Datum)) (counts : CountsState) → AreCounts schema rows counts → counts.op ≡ Sort keys → counts.kept ≡ positions schema (Sort keys) rows
with_kept schema keys rows counts h is = h.kept ∙ ap (λ o. positions schema o rows) is

pub with_starts : (schema : List Attribute) (keys : List Key) (rows : List (List Datum)) (counts : CountsState) → AreCounts schema rows counts → counts.op ≡ Sort keys
    → counts.starts ≡ raised (flags (ties schema (Sort keys) rows) (positions schema (Sort keys) rows))
with_starts schema keys rows counts h is =
    h.starts_are ∙ ap (λ o. raised (flags (ties schema o rows) counts.kept)) is ∙ ap (λ ks. raised (flags (ties schema (Sort keys) rows) ks)) (with_kept schema keys rows counts h is)

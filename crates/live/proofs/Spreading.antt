-- Copies of a row that come side by side: what is kept before them and after them.
use Rattle.std.proofs.Common.{◌≡◌, ◌≢◌, ◌⊎◌, ◌==◌, ℕ, zero, suc, ◌+◌, ◌-◌, ◌<◌, ◌≤◌, ◌^◌, Bool, true, false, List, [], ◌∷◌, ◌++◌, length, get_or, map, take, drop, replicate, Option, Some, None, refl, ap, sym, subst, ◌∙◌, arith, inl, inr}
use Rattle.std.specs.List.{All, AllPairs, position}
use Rattle.std.specs.declared.cmp.Ordering.{Ordering}
use Rattle.std.specs.declared.cmp.Ordering.TheVariants.{Less, Equal, Greater}
use Rattle.std.specs.Ordering.{nat_cmp, ordering_then, ordering_reverse}
use Rattle.std.specs.Cmp.{IsTotalOrder}
use Rattle.std.proofs.lemmas.Bool.{cases_lt}
use Rattle.std.proofs.lemmas.Bool.Decides.{nat_tests}
use Rattle.std.proofs.lemmas.List.{get_or_append_left, get_or-append_right, get_or-drop, get_or-replicate, get_or-take, length-append, length-drop, length-map, length-replicate, length-take-le, take-append-drop, take-map, drop-map, map-append}
use Rattle.mk_value.specs.Data.{Datum}
use Rattle.mk_value.specs.Heading.{Attribute}
use Rattle.mk_value.specs.Limits.{max_rows}
use Rattle.relations.specs.Positions.{place_cmp}
use Rattle.relations.specs.Rows.{rows_at}
use Rattle.relations.proofs.Ascending.{IsIn, Ascends, each_from_in, in_at, less_nat, not_less}
use Rattle.row_edits.specs.Runs.{moved_up, run, spread, with_run}
use Rattle.live.specs.Watching.{order, passes, positions}
use Rattle.live.specs.declared.op.WatchOp.{WatchOp}
use Rattle.live.proofs.Members.{in_append, in_left, in_right}
use Rattle.live.proofs.Ops.{op_total, positions_few}
use Rattle.live.proofs.Picks.{ArePicked, ascends_across, ascends_joined, ascends_left, ascends_map, ascends_right, in_map, map_in, picked_same}
use Rattle.live.proofs.Placing.{front_less, in_back, other_way, pairs_from_ascends, picked_positions, position_absent, position_middle}
use Rattle.live.proofs.Turning.{positions_in}

-- places moved up
up_below : (at n k : ℕ) → k < at → moved_up at n k ≡ k
up_below at n k h = grind (arith, nat_tests)

up_above : (at n k : ℕ) → at ≤ k → moved_up at n k ≡ k + n
up_above at n k h = grind (arith, nat_tests)

up_cmp : (at n j k : ℕ) → nat_cmp (moved_up at n j) (moved_up at n k) ≡ nat_cmp j k
up_cmp at n j k = grind (arith, nat_tests)

-- a place is none of n from one on
abbrev IsAround : ℕ → ℕ → ℕ → Type 0
IsAround at n i = (i < at) ⊎ (at + n ≤ i)

up_around : (at n k : ℕ) → IsAround at n (moved_up at n k)
up_around at n k = elim (cases_lt k at) [
  | inl p ↦ inl (let e = up_below at n k p in omega arith)
  | inr p ↦ inr (let e = up_above at n k p in omega arith)
]

-- each place around is one that was moved up
came_up : (at n size i : ℕ) → at ≤ size → i < size + n → IsAround at n i → (k : ℕ) × (k < size) × (moved_up at n k ≡ i)
came_up at n size i le p (inl q) = (i, omega arith, up_below at n i q)
came_up at n size i le p (inr q) = (i - n, omega arith, up_above at n (i - n) (omega arith) ∙ (let e : i - n + n ≡ i = omega arith in e))

-- an element of the first part
take_in : (p : ℕ) (xs : List ℕ) (z : ℕ) → IsIn z (take p xs) → IsIn z xs
take_in p xs z h = subst (IsIn z) (take-append-drop p xs) (in_left (take p xs) (drop p xs) z h)

-- the numbers of a run
run_in : (first n i : ℕ) → IsIn i (run first n) → (first ≤ i) × (i < first + n)
run_in first zero i h = absurd h
run_in first (suc n) i (inl e) = (omega arith, omega arith)
run_in first (suc n) i (inr h) = let r = run_in (first + 1) n i h in (omega (arith, r.0), omega (arith, r.1))

in_run : (first n i : ℕ) → first ≤ i → i < first + n → IsIn i (run first n)
in_run first zero i p q = absurd (omega arith)
in_run first (suc n) i p q = elim (cases_lt first i) [
  | inl more ↦ inr (in_run (first + 1) n i (omega arith) (omega arith))
  | inr same ↦ inl (let e : first ≡ i = omega arith in e)
]

-- rows into which copies of one came
module _ {X : Type 0} (d x : X) (rows : List X) (at n : ℕ) (le : at ≤ length rows) where
  abbrev spread_out : List X
  spread_out = take at rows ++ (replicate n x ++ drop at rows)

  front_long : length (take at rows) ≡ at
  front_long = length-take-le at rows le

  pub spread_long : length spread_out ≡ length rows + n
  spread_long =
      let a = length-append (take at rows) (replicate n x ++ drop at rows) in
      let b = length-append (replicate n x) (drop at rows) in
      let c = length-replicate n x in
      let e = length-drop at rows in
      let f = front_long in
      omega arith

  front_row : (k : ℕ) → k < at → get_or spread_out k d ≡ get_or rows k d
  front_row k p = let f = front_long in get_or_append_left (take at rows) (replicate n x ++ drop at rows) d k (omega arith) ∙ get_or-take at rows k d p

  back_row : (k : ℕ) → at ≤ k → get_or spread_out (k + n) d ≡ get_or rows k d
  back_row k p =
      get_or-append_right (take at rows) (replicate n x ++ drop at rows) at (k + n) d front_long (omega arith)
      ∙ get_or-append_right (replicate n x) (drop at rows) n (k + n - at) d (length-replicate n x) (omega arith)
      ∙ get_or-drop at rows (k + n - at - n) d ∙ ap (λ j. get_or rows j d) (let e : at + (k + n - at - n) ≡ k = omega arith in e)

  pub row_here : (k : ℕ) → at ≤ k → k < at + n → get_or spread_out k d ≡ x
  row_here k p q =
      let l = length-replicate n x in
      get_or-append_right (take at rows) (replicate n x ++ drop at rows) at k d front_long p
      ∙ get_or_append_left (replicate n x) (drop at rows) d (k - at) (omega arith) ∙ get_or-replicate n (k - at) x d (omega arith)

  pub row_up : (k : ℕ) → get_or spread_out (moved_up at n k) d ≡ get_or rows k d
  row_up k = elim (cases_lt k at) [
    | inl p ↦ ap (λ j. get_or spread_out j d) (up_below at n k p) ∙ front_row k p
    | inr p ↦ ap (λ j. get_or spread_out j d) (up_above at n k p) ∙ back_row k p
  ]

  up_in : (k : ℕ) → k < length rows → moved_up at n k < length spread_out
  up_in k q = let l = spread_long in elim (cases_lt k at) [
    | inl p ↦ let e = up_below at n k p in omega arith
    | inr p ↦ let e = up_above at n k p in omega arith
  ]

self_equal : {X : Type 0} {cmp : X → X → Ordering} → IsTotalOrder cmp → (x : X) → cmp x x ≡ Equal
self_equal {X} {cmp} total x = at (cmp x x) refl
  where
    at : (o : Ordering) → cmp x x ≡ o → cmp x x ≡ Equal
    at Less e = absurd (not_less total x e)
    at Equal e = e
    at Greater e = absurd (not_less total x (total.antisymm x x ∙ ap ordering_reverse e))

-- the positions of the rows that pass, of all rows but those of a span
record AreAround {X : Type 0} (test : X → Bool) (cmp : X → X → Ordering) (d : X) (rows : List X) (at n : ℕ) (ps : List ℕ) : Type 0 where
  pub ascends : Ascends (place_cmp cmp d rows) ps
  pub inside : (i : ℕ) → IsIn i ps → (i < length rows) × (test (get_or rows i d) ≡ true) × IsAround at n i
  pub whole : (i : ℕ) → i < length rows → test (get_or rows i d) ≡ true → IsAround at n i → IsIn i ps

module _ {X : Type 0} (test : X → Bool) (cmp : X → X → Ordering) (total : IsTotalOrder cmp) (d x : X) (rows : List X) (at n : ℕ) (le : at ≤ length rows) where
  abbrev new : List X
  new = spread_out d x rows at n le

  cmp_up : (j k : ℕ) → place_cmp cmp d new (moved_up at n j) (moved_up at n k) ≡ place_cmp cmp d rows j k
  cmp_up j k =
      ap (λ y. ordering_then (cmp y (get_or new (moved_up at n k) d)) (nat_cmp (moved_up at n j) (moved_up at n k))) (row_up d x rows at n le j)
      ∙ ap (λ y. ordering_then (cmp (get_or rows j d) y) (nat_cmp (moved_up at n j) (moved_up at n k))) (row_up d x rows at n le k)
      ∙ ap (ordering_then (cmp (get_or rows j d) (get_or rows k d))) (up_cmp at n j k)

  picked_up : (ps : List ℕ) → ArePicked test cmp d rows ps → AreAround test cmp d new at n (map (moved_up at n) ps)
  picked_up ps h = record {
    ascends = ascends_map (place_cmp cmp d rows) (place_cmp cmp d new) (moved_up at n) ps (λ j k a b. cmp_up j k) h.ascends;
    inside = λ i g.
        let r = map_in (moved_up at n) ps i g in
        let y = h.inside r.0 r.1 in
        subst (λ j. (j < length new) × (test (get_or new j d) ≡ true) × IsAround at n j) r.2 (up_in d x rows at n le r.0 y.0, ap test (row_up d x rows at n le r.0) ∙ y.1, up_around at n r.0);
    whole = λ i q t a.
        let l = spread_long d x rows at n le in
        let r = came_up at n (length rows) i le (omega arith) a in
        subst (λ j. IsIn j (map (moved_up at n) ps)) r.2
        (in_map (moved_up at n) ps r.0 (h.whole r.0 r.1 (ap test (sym (row_up d x rows at n le r.0) ∙ ap (λ j. get_or new j d) r.2) ∙ t)));
  }

  around_left_out : (ps : List ℕ) → AreAround test cmp d new at n ps → test x ≡ false → ArePicked test cmp d new ps
  around_left_out ps h fails = record {
    ascends = h.ascends;
    inside = λ i g. let r = h.inside i g in (r.0, r.1);
    whole = λ i q t. elim (cases_lt i at) [
      | inl p ↦ h.whole i q t (inl p)
      | inr p ↦ elim (cases_lt i (at + n)) [
        | inl r ↦ cc (fails, t, ap test (row_here d x rows at n le i p r))
        | inr r ↦ h.whole i q t (inr r)
      ]
    ];
  }

  -- two of the copies
  copies_less : (i j : ℕ) → at ≤ i → i < j → j < at + n → place_cmp cmp d new i j ≡ Less
  copies_less i j p q r =
      ap (λ y. ordering_then (cmp y (get_or new j d)) (nat_cmp i j)) (row_here d x rows at n le i p (omega arith))
      ∙ ap (λ y. ordering_then (cmp x y) (nat_cmp i j)) (row_here d x rows at n le j (omega arith) r)
      ∙ ap (λ o. ordering_then o (nat_cmp i j)) (self_equal total x) ∙ less_nat i j q

  run_ascends : (first m : ℕ) → at ≤ first → first + m ≤ at + n → Ascends (place_cmp cmp d new) (run first m)
  run_ascends first zero p q = tt
  run_ascends first (suc m) p q = (
    each_from_in (λ j. place_cmp cmp d new first j ≡ Less) (run (first + 1) m) (λ j h. let r = run_in (first + 1) m j h in copies_less first j p (omega (arith, r.0)) (omega (arith, r.1))),
    run_ascends (first + 1) m (omega arith) (omega arith),
  )

  -- a copy stands to the other rows as the first of them does
  same_nat : (i j : ℕ) → at ≤ i → i < at + n → IsAround at n j → nat_cmp i j ≡ nat_cmp at j
  same_nat i j p q (inl r) = grind (arith, nat_tests)
  same_nat i j p q (inr r) = grind (arith, nat_tests)

  same_back : (i j : ℕ) → at ≤ i → i < at + n → IsAround at n j → nat_cmp j i ≡ nat_cmp j at
  same_back i j p q (inl r) = grind (arith, nat_tests)
  same_back i j p q (inr r) = grind (arith, nat_tests)

  module _ (some : 0 < n) where
    row_first : get_or new at d ≡ x
    row_first = row_here d x rows at n le at (omega arith) (omega arith)

    copy_before : (i j : ℕ) → at ≤ i → i < at + n → IsAround at n j → place_cmp cmp d new at j ≡ Less → place_cmp cmp d new i j ≡ Less
    copy_before i j p q a e =
        ap (λ y. ordering_then (cmp y (get_or new j d)) (nat_cmp i j)) (row_here d x rows at n le i p q ∙ sym row_first)
        ∙ ap (ordering_then (cmp (get_or new at d) (get_or new j d))) (same_nat i j p q a) ∙ e

    copy_behind : (i j : ℕ) → at ≤ i → i < at + n → IsAround at n j → place_cmp cmp d new j at ≡ Less → place_cmp cmp d new j i ≡ Less
    copy_behind i j p q a e =
        ap (λ y. ordering_then (cmp (get_or new j d) y) (nat_cmp j i)) (row_here d x rows at n le i p q ∙ sym row_first)
        ∙ ap (ordering_then (cmp (get_or new j d) (get_or new at d))) (same_back i j p q a) ∙ e

    around_put : (xs ys : List ℕ) → AreAround test cmp d new at n (xs ++ ys) → test x ≡ true
        → ((i : ℕ) → IsIn i xs → place_cmp cmp d new i at ≡ Less) → ((j : ℕ) → IsIn j ys → place_cmp cmp d new at j ≡ Less) → ArePicked test cmp d new (xs ++ (run at n ++ ys))
    around_put xs ys h passes below above = record {
      ascends = ascends_joined (place_cmp cmp d new) xs (run at n ++ ys) (ascends_left (place_cmp cmp d new) xs ys h.ascends)
          (ascends_joined (place_cmp cmp d new) (run at n) ys (run_ascends at n (omega arith) (omega arith)) (ascends_right (place_cmp cmp d new) xs ys h.ascends)
          (λ i j p q. let r = run_in at n i p in copy_before i j r.0 r.1 ((h.inside j (in_right xs ys j q)).2) (above j q)))
          (λ i j p q. elim (in_append (run at n) ys j q) [
            | inl a ↦ let r = run_in at n j a in copy_behind j i r.0 r.1 ((h.inside i (in_left xs ys i p)).2) (below i p)
            | inr b ↦ ascends_across (place_cmp cmp d new) xs ys h.ascends i j p b
          ]);
      inside = λ i g. elim (in_append xs (run at n ++ ys) i g) [
        | inl a ↦ let r = h.inside i (in_left xs ys i a) in (r.0, r.1)
        | inr b ↦ elim (in_append (run at n) ys i b) [
          | inl c ↦
              let r = run_in at n i c in
              let l = spread_long d x rows at n le in (omega (arith, r.1, l, le), ap test (row_here d x rows at n le i r.0 r.1) ∙ passes)
          | inr e ↦ let r = h.inside i (in_right xs ys i e) in (r.0, r.1)
        ]
      ];
      whole = λ i q t. elim (cases_lt i at) [
        | inl p ↦ put_back i (h.whole i q t (inl p))
        | inr p ↦ elim (cases_lt i (at + n)) [
          | inl r ↦ in_right xs (run at n ++ ys) i (in_left (run at n) ys i (in_run at n i p r))
          | inr r ↦ put_back i (h.whole i q t (inr r))
        ]
      ];
    }
      where
        put_back : (i : ℕ) → IsIn i (xs ++ ys) → IsIn i (xs ++ (run at n ++ ys))
        put_back i g = elim (in_append xs ys i g) [
          | inl a ↦ in_left xs (run at n ++ ys) i a
          | inr b ↦ in_right xs (run at n ++ ys) i (in_right (run at n) ys i b)
        ]

-- what a watch keeps, once its positions have the numbers that they have among the rows that came
module _ (schema : List Attribute) (op : WatchOp) (rows before : List (List Datum)) (row : List Datum) (at n : ℕ) (le : at ≤ length before) (made : rows ≡ take at before ++ (replicate n row ++ drop at before)) (some : 0 < n) (few : length rows ≤ max_rows) where
  abbrev test : List Datum → Bool
  test = passes schema op

  abbrev cmp : List Datum → List Datum → Ordering
  cmp = order schema op

  pub long : length rows ≡ length before + n
  long = ap length made ∙ spread_long [] row before at n le

  pub there : at < length rows
  there = let l = long in omega arith

  pub row_is : get_or rows at [] ≡ row
  row_is = ap (λ rs. get_or rs at []) made ∙ row_here [] row before at n le at (omega arith) (omega arith)

  pub small : (kept : List ℕ) → kept ≡ positions schema op before → All (λ k. k + n < 2 ^ 32) kept
  small kept is i d q =
      let l = long in
      let a = subst (λ xs. All (λ k. k < length before) xs) (sym is) (positions_in schema op before) i d q in
      omega arith

  pub within_new : (kept : List ℕ) → kept ≡ positions schema op before → (size : ℕ) → size ≡ length rows → All (λ k. k + n < size) kept
  within_new kept is size same i d q =
      let l = long in
      let a = subst (λ xs. All (λ k. k < length before) xs) (sym is) (positions_in schema op before) i d q in
      omega arith

  module _ (kept : List ℕ) (others : kept ≡ map (moved_up at n) (positions schema op before)) where
    around : AreAround test cmp [] rows at n kept
    around =
        subst (λ ks. AreAround test cmp [] rows at n ks) (sym others)
        (subst (λ rs. AreAround test cmp [] rs at n (map (moved_up at n) (positions schema op before))) (sym made)
        (picked_up test cmp (op_total schema op) [] row before at n le (positions schema op before) (picked_positions schema op before)))

    pub kept_in : All (λ k. k < length rows) kept
    kept_in i d q = (around.inside (get_or kept i d) (in_at kept i d q)).0

    pub kept_order : AllPairs (λ i j. place_cmp cmp [] rows i j ≡ Less) kept
    kept_order = pairs_from_ascends (place_cmp cmp [] rows) kept around.ascends

    pub kept_few : length kept + n ≤ length rows
    kept_few =
        let l = long in
        let a = ap length others ∙ length-map (positions schema op before) (moved_up at n) in
        let b = positions_few schema op before in
        omega arith

    not_there : IsIn at kept → ⊥
    not_there h = elim ((around.inside at h).2) [ inl q ↦ absurd (omega arith) | inr q ↦ absurd (omega arith) ]

    pub left_out_place : position (λ k. k == at) kept ≡ None
    left_out_place = position_absent at kept not_there

    pub put_place : (p : ℕ) → p ≤ length kept → position (λ k. k == at) (take p kept ++ (run at n ++ drop p kept)) ≡ Some p
    put_place p within = of_run n some ∙ ap Some (length-take-le p kept within)
      where
        of_run : (m : ℕ) → 0 < m → position (λ k. k == at) (take p kept ++ (run at m ++ drop p kept)) ≡ Some (length (take p kept))
        of_run zero more = absurd (omega arith)
        of_run (suc m) more = position_middle at (take p kept) (run (at + 1) m ++ drop p kept) (λ h. not_there (take_in p kept at h))

    pub left_out : passes schema op (get_or rows at []) ≡ false → kept ≡ positions schema op rows
    left_out fails =
        picked_same test cmp (op_total schema op) [] rows kept (positions schema op rows)
        (subst (λ rs. ArePicked test cmp [] rs kept) (sym made)
        (around_left_out test cmp (op_total schema op) [] row before at n le kept (subst (λ rs. AreAround test cmp [] rs at n kept) made around) (ap (passes schema op) (sym row_is) ∙ fails)))
        (picked_positions schema op rows)

    module _ (p : ℕ) (within : p ≤ length kept)
        (below : (k : ℕ) → k < p → place_cmp cmp [] rows (get_or kept k 0) at ≡ Less)
        (above : (k : ℕ) → p ≤ k → k < length kept → place_cmp cmp [] rows (get_or kept k 0) at ≢ Less) where
      apart : (i : ℕ) → IsAround at n i → i ≢ at
      apart i (inl q) e = absurd (omega arith)
      apart i (inr q) e = absurd (omega arith)

      back_more : (y : ℕ) → IsIn y (drop p kept) → place_cmp cmp [] rows at y ≡ Less
      back_more y h =
          let r = in_back kept p y within h in
          let inside = around.inside (get_or kept r.0 0) (in_at kept r.0 0 r.2) in
          subst (λ z. place_cmp cmp [] rows at z ≡ Less) r.3 (other_way cmp (op_total schema op) [] rows (get_or kept r.0 0) at (above r.0 r.1 r.2) (apart (get_or kept r.0 0) inside.2))

      pub run_put : passes schema op (get_or rows at []) ≡ true → take p kept ++ (run at n ++ drop p kept) ≡ positions schema op rows
      run_put has =
          picked_same test cmp (op_total schema op) [] rows (take p kept ++ (run at n ++ drop p kept)) (positions schema op rows)
          (subst (λ rs. ArePicked test cmp [] rs (take p kept ++ (run at n ++ drop p kept))) (sym made)
          (around_put test cmp (op_total schema op) [] row before at n le some (take p kept) (drop p kept)
          (subst (λ rs. AreAround test cmp [] rs at n (take p kept ++ drop p kept)) made (subst (AreAround test cmp [] rows at n) (sym (take-append-drop p kept)) around))
          (ap (passes schema op) (sym row_is) ∙ has)
          (λ i h. subst (λ rs. place_cmp cmp [] rs i at ≡ Less) made (front_less schema op rows kept at p within below above i h))
          (λ j h. subst (λ rs. place_cmp cmp [] rs at j ≡ Less) made (back_more j h))))
          (picked_positions schema op rows)

    -- the rows that the watch shows
    rows_same : rows_at rows kept ≡ rows_at before (positions schema op before)
    rows_same = ap (rows_at rows) others ∙ ap (λ rs. rows_at rs (map (moved_up at n) (positions schema op before))) made ∙ each (positions schema op before)
      where
        each : (ks : List ℕ) → rows_at (take at before ++ (replicate n row ++ drop at before)) (map (moved_up at n) ks) ≡ rows_at before ks
        each [] = refl
        each (k ∷ ks) = ap (λ r. r ∷ rows_at (take at before ++ (replicate n row ++ drop at before)) (map (moved_up at n) ks)) (row_up [] row before at n le k) ∙ ap (λ rs. get_or before k [] ∷ rs) (each ks)

    run_rows : (first m : ℕ) → at ≤ first → first + m ≤ at + n → rows_at rows (run first m) ≡ replicate m row
    run_rows first zero p q = refl
    run_rows first (suc m) p q =
        ap (λ r. r ∷ rows_at rows (run (first + 1) m)) (ap (λ rs. get_or rs first []) made ∙ row_here [] row before at n le first p (omega arith))
        ∙ ap (λ rs. row ∷ rs) (run_rows (first + 1) m (omega arith) (omega arith))

    pub with_run_rows : (o : Option ℕ) → rows_at rows (with_run o at n kept) ≡ spread o n row (rows_at before (positions schema op before))
    with_run_rows None = rows_same
    with_run_rows (Some p) =
        map-append (λ i. get_or rows i []) (take p kept) (run at n ++ drop p kept)
        ∙ ap (λ rs. rows_at rows (take p kept) ++ rs) (map-append (λ i. get_or rows i []) (run at n) (drop p kept))
        ∙ ap (λ rs. rows_at rows (take p kept) ++ (rs ++ rows_at rows (drop p kept))) (run_rows at n (omega arith) (omega arith))
        ∙ ap (λ rs. rs ++ (replicate n row ++ rows_at rows (drop p kept))) (sym (take-map (λ i. get_or rows i []) p kept) ∙ ap (take p) rows_same)
        ∙ ap (λ rs. take p (rows_at before (positions schema op before)) ++ (replicate n row ++ rs)) (sym (drop-map (λ i. get_or rows i []) p kept) ∙ ap (drop p) rows_same)

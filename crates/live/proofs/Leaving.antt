-- Rows of which some go: the places of the others, and what is kept of them.
use Rattle.std.proofs.Common.{◌≡◌, ◌⊎◌, ℕ, zero, suc, ◌+◌, ◌-◌, ◌<◌, ◌≤◌, min, Bool, true, false, not, if◌then◌else◌, nat_lt, List, [], ◌∷◌, ◌++◌, length, get_or, map, take, drop, refl, ap, sym, subst, ◌∙◌, arith, inl, inr}
use Rattle.std.specs.List.{filter}
use Rattle.std.specs.declared.cmp.Ordering.{Ordering}
use Rattle.std.specs.Ordering.{nat_cmp, ordering_reverse, ordering_then}
use Rattle.std.specs.Cmp.{nat_cmp_total}
use Rattle.std.proofs.lemmas.Bool.{cases_lt, le-ltb, lt-ltb}
use Rattle.std.proofs.lemmas.Bool.Decides.{nat_tests}
use Rattle.std.proofs.lemmas.List.{get_or_append_left, get_or-append_right, get_or_default, get_or-drop, get_or-map, get_or-take, length-append, length-drop, length-map, length-take-le, map-append, same_lists, take_all, take_more}
use Rattle.std.proofs.lemmas.List.Elements.{filter-append}
use Rattle.mk_value.specs.Data.{Datum}
use Rattle.mk_value.specs.Heading.{Attribute}
use Rattle.relations.specs.Positions.{numbers, place_cmp}
use Rattle.relations.specs.Rows.{rows_at}
use Rattle.relations.proofs.Ascending.{IsIn, less_nat}
use Rattle.live.specs.Leaving.{is_inside, kept_left, place_left, rows_left, staying}
use Rattle.row_edits.specs.Runs.{is_outside, kept_outside, moved_down}
use Rattle.live.specs.Watching.{order, passes, positions}
use Rattle.live.specs.declared.op.WatchOp.{WatchOp}
use Rattle.live.proofs.Members.{filter_in, in_filter}
use Rattle.live.proofs.Ops.{op_total}
use Rattle.live.proofs.Picks.{ArePicked, ascends_map, in_map, map_in, picked_same}
use Rattle.live.proofs.Placing.{picked_positions}
use Rattle.row_edits.proofs.Filtered.{ascends_filter}
use Rattle.row_edits.proofs.Runs.{inside, outside_high, outside_low}

-- a Bool is one or the other
pub stays_or_goes : (b : Bool) → (b ≡ false) ⊎ (b ≡ true)
stays_or_goes false = inl refl
stays_or_goes true = inr refl

not_true : (b : Bool) → not b ≡ true → b ≡ false
not_true false e = refl
not_true true e = cc

one_stays : (b : Bool) (n : ℕ) → b ≡ false → (if not b then n ∷ [] else []) ≡ n ∷ []
one_stays false n e = refl
one_stays true n e = cc

one_goes : (b : Bool) (n : ℕ) → b ≡ true → (if not b then n ∷ [] else []) ≡ []
one_goes true n e = refl
one_goes false n e = cc

-- the places that stay
module _ (gone : ℕ → Bool) where
  abbrev stays : ℕ → Bool
  stays i = not (gone i)

  pub more_stays : (n : ℕ) → gone n ≡ false → staying gone (suc n) ≡ staying gone n ++ n ∷ []
  more_stays n e = filter-append stays (numbers n) (n ∷ []) ∙ ap (λ xs. staying gone n ++ xs) (one_stays (gone n) n e)

  pub more_goes : (n : ℕ) → gone n ≡ true → staying gone (suc n) ≡ staying gone n ++ []
  more_goes n e = filter-append stays (numbers n) (n ∷ []) ∙ ap (λ xs. staying gone n ++ xs) (one_goes (gone n) n e)

  pub place_stays : (n : ℕ) → gone n ≡ false → place_left gone (suc n) ≡ place_left gone n + 1
  place_stays n e = ap length (more_stays n e) ∙ length-append (staying gone n) (n ∷ [])

  pub place_goes : (n : ℕ) → gone n ≡ true → place_left gone (suc n) ≡ place_left gone n
  place_goes n e = ap length (more_goes n e) ∙ (let l = length-append (staying gone n) [] in omega arith)

  place_next : (n : ℕ) → place_left gone n ≤ place_left gone (suc n)
  place_next n = elim (stays_or_goes (gone n)) [ inl e ↦ let a = place_stays n e in omega arith | inr e ↦ let a = place_goes n e in omega arith ]

  pub place_le : (j k : ℕ) → j ≤ k → place_left gone j ≤ place_left gone k
  place_le j zero p = let e : j ≡ zero = omega arith in let a = ap (place_left gone) e in omega arith
  place_le j (suc k) p = elim (cases_lt k j) [
    | inl far ↦ let e : j ≡ suc k = omega arith in let a = ap (place_left gone) e in omega arith
    | inr near ↦ let a = place_le j k near in let b = place_next k in omega arith
  ]

  pub place_lt : (j k : ℕ) → j < k → gone j ≡ false → place_left gone j < place_left gone k
  place_lt j k p e = let a = place_stays j e in let b = place_le (suc j) k p in omega arith

  places_cmp : (j k : ℕ) → gone j ≡ false → gone k ≡ false → nat_cmp (place_left gone j) (place_left gone k) ≡ nat_cmp j k
  places_cmp j k a b = elim (cases_lt j k) [
    | inl p ↦ less_nat (place_left gone j) (place_left gone k) (place_lt j k p a) ∙ sym (less_nat j k p)
    | inr p ↦ elim (cases_lt k j) [
      | inl q ↦
          nat_cmp_total.antisymm (place_left gone j) (place_left gone k) ∙ ap ordering_reverse (less_nat (place_left gone k) (place_left gone j) (place_lt k j q b) ∙ sym (less_nat k j q))
          ∙ sym (nat_cmp_total.antisymm j k)
      | inr q ↦
          let e : j ≡ k = omega arith in
          ap (λ i. nat_cmp (place_left gone i) (place_left gone k)) e ∙ equal (place_left gone k) ∙ sym (equal k) ∙ ap (λ i. nat_cmp i k) (sym e)
    ]
  ]
    where
      equal : (n : ℕ) → nat_cmp n n ≡ nat_cmp 0 0
      equal n = grind (arith, nat_tests)

  stay_at : (n k : ℕ) → k < n → gone k ≡ false → get_or (staying gone n) (place_left gone k) 0 ≡ k
  stay_at zero k p e = absurd (omega arith)
  stay_at (suc n) k p e = elim (cases_lt k n) [
    | inl near ↦
        let below = place_lt k n near e in
        elim (stays_or_goes (gone n)) [
          | inl f ↦ ap (λ xs. get_or xs (place_left gone k) 0) (more_stays n f) ∙ get_or_append_left (staying gone n) (n ∷ []) 0 (place_left gone k) below ∙ stay_at n k near e
          | inr f ↦ ap (λ xs. get_or xs (place_left gone k) 0) (more_goes n f) ∙ get_or_append_left (staying gone n) [] 0 (place_left gone k) below ∙ stay_at n k near e
        ]
    | inr far ↦
        let same : k ≡ n = omega arith in
        let f : gone n ≡ false = ap gone (sym same) ∙ e in
        ap (λ j. get_or (staying gone (suc n)) (place_left gone j) 0) same ∙ ap (λ xs. get_or xs (place_left gone n) 0) (more_stays n f)
        ∙ get_or-append_right (staying gone n) (n ∷ []) (place_left gone n) (place_left gone n) 0 refl (omega arith)
        ∙ ap (λ j. get_or (n ∷ []) j 0) (let z : place_left gone n - place_left gone n ≡ 0 = omega arith in z) ∙ sym same
  ]

  -- each place then is that of a row that stays
  pub came_from : (n i : ℕ) → i < place_left gone n → (k : ℕ) × (k < n) × (gone k ≡ false) × (place_left gone k ≡ i)
  came_from zero i p = absurd (omega arith)
  came_from (suc n) i p = elim (cases_lt i (place_left gone n)) [
    | inl near ↦ let r = came_from n i near in (r.0, omega (arith, r.1), r.2, r.3)
    | inr far ↦ elim (stays_or_goes (gone n)) [
      | inl e ↦ let a = place_stays n e in (n, omega arith, e, omega arith)
      | inr e ↦ let a = place_goes n e in absurd (omega arith)
    ]
  ]

  -- what is kept of one position more
  pub kept_stays : (x : ℕ) (xs : List ℕ) → gone x ≡ false → kept_left gone (x ∷ xs) ≡ place_left gone x ∷ kept_left gone xs
  kept_stays x xs e = at (gone x) e
    where
      at : (b : Bool) → b ≡ false → map (place_left gone) (if not b then x ∷ filter stays xs else filter stays xs) ≡ place_left gone x ∷ kept_left gone xs
      at false f = refl
      at true f = cc

  pub kept_goes : (x : ℕ) (xs : List ℕ) → gone x ≡ true → kept_left gone (x ∷ xs) ≡ kept_left gone xs
  kept_goes x xs e = at (gone x) e
    where
      at : (b : Bool) → b ≡ true → map (place_left gone) (if not b then x ∷ filter stays xs else filter stays xs) ≡ kept_left gone xs
      at true f = refl
      at false f = cc

-- what goes alike leaves the same
pub staying_alike : (f g : ℕ → Bool) (n : ℕ) → ((j : ℕ) → j < n → f j ≡ g j) → staying f n ≡ staying g n
staying_alike f g zero same = refl
staying_alike f g (suc n) same =
    let rest = staying_alike f g n (λ j p. same j (omega arith)) in
    let here = same n (omega arith) in
    filter-append (λ i. not (f i)) (numbers n) (n ∷ []) ∙ ap (λ xs. xs ++ (if not (f n) then n ∷ [] else [])) rest ∙ ap (λ b. staying g n ++ (if not b then n ∷ [] else [])) here
    ∙ sym (filter-append (λ i. not (g i)) (numbers n) (n ∷ []))

pub rows_alike : (f g : ℕ → Bool) (rows : List (List Datum)) → ((j : ℕ) → j < length rows → f j ≡ g j) → rows_left f rows ≡ rows_left g rows
rows_alike f g rows same = ap (rows_at rows) (staying_alike f g (length rows) same)

pub kept_alike : (f g : ℕ → Bool) → ((j : ℕ) → f j ≡ g j) → (ks : List ℕ) → kept_left f ks ≡ kept_left g ks
kept_alike f g same [] = refl
kept_alike f g same (x ∷ xs) = elim (stays_or_goes (g x)) [
  | inl e ↦
      kept_stays f x xs (same x ∙ e) ∙ ap (λ p. p ∷ kept_left f xs) (ap length (staying_alike f g x (λ j p. same j))) ∙ ap (λ ys. place_left g x ∷ ys) (kept_alike f g same xs)
      ∙ sym (kept_stays g x xs e)
  | inr e ↦ kept_goes f x xs (same x ∙ e) ∙ kept_alike f g same xs ∙ sym (kept_goes g x xs e)
]

-- the rows that stay, by their places then
module _ (gone : ℕ → Bool) (rows : List (List Datum)) where
  pub left_long : length (rows_left gone rows) ≡ place_left gone (length rows)
  left_long = length-map (staying gone (length rows)) (λ i. get_or rows i [])

  pub place_in : (k : ℕ) → k < length rows → gone k ≡ false → place_left gone k < length (rows_left gone rows)
  place_in k p e = let l = left_long in let a = place_lt gone k (length rows) p e in omega arith

  pub row_left : (k : ℕ) → k < length rows → gone k ≡ false → get_or (rows_left gone rows) (place_left gone k) [] ≡ get_or rows k []
  row_left k p e =
      get_or-map (λ i. get_or rows i []) (staying gone (length rows)) (place_left gone k) 0 [] (place_lt gone k (length rows) p e)
      ∙ ap (λ i. get_or rows i []) (stay_at gone (length rows) k p e)

  module _ (test : List Datum → Bool) (cmp : List Datum → List Datum → Ordering) where
    cmp_left : (j k : ℕ) → j < length rows → k < length rows → gone j ≡ false → gone k ≡ false
        → place_cmp cmp [] (rows_left gone rows) (place_left gone j) (place_left gone k) ≡ place_cmp cmp [] rows j k
    cmp_left j k p q a b =
        ap (λ x. ordering_then (cmp x (get_or (rows_left gone rows) (place_left gone k) [])) (nat_cmp (place_left gone j) (place_left gone k))) (row_left j p a)
        ∙ ap (λ y. ordering_then (cmp (get_or rows j []) y) (nat_cmp (place_left gone j) (place_left gone k))) (row_left k q b)
        ∙ ap (ordering_then (cmp (get_or rows j []) (get_or rows k []))) (places_cmp gone j k a b)

    picked_left : (ps : List ℕ) → ArePicked test cmp [] rows ps → ArePicked test cmp [] (rows_left gone rows) (kept_left gone ps)
    picked_left ps h =
        let stay : ℕ → Bool = λ i. not (gone i) in
        let of : (i : ℕ) → IsIn i (filter stay ps) → (i < length rows) × (test (get_or rows i []) ≡ true) × (gone i ≡ false) =
        λ i g. let r = in_filter stay ps i g in let y = h.inside i r.0 in (y.0, y.1, not_true (gone i) r.1) in
        record {
          ascends = ascends_map (place_cmp cmp [] rows) (place_cmp cmp [] (rows_left gone rows)) (place_left gone) (filter stay ps)
              (λ j k a b. let x = of j a in let y = of k b in cmp_left j k x.0 y.0 x.2 y.2) (ascends_filter (place_cmp cmp [] rows) stay ps h.ascends);
          inside = λ i g.
              let r = map_in (place_left gone) (filter stay ps) i g in
              let x = of r.0 r.1 in
              subst (λ j. (j < length (rows_left gone rows)) × (test (get_or (rows_left gone rows) j []) ≡ true)) r.2 (place_in r.0 x.0 x.2, ap test (row_left r.0 x.0 x.2) ∙ x.1);
          whole = λ i q t.
              let l = left_long in
              let r = came_from gone (length rows) i (omega arith) in
              subst (λ j. IsIn j (kept_left gone ps)) r.3
              (in_map (place_left gone) (filter stay ps) r.0
              (filter_in stay ps r.0 (h.whole r.0 r.1 (ap test (sym (row_left r.0 r.1 r.2) ∙ ap (λ j. get_or (rows_left gone rows) j []) r.3) ∙ t)) (ap not r.2)));
        }

-- what a watch keeps of rows of which some go is what it keeps of those that stay
pub positions_left : (schema : List Attribute) (op : WatchOp) (gone : ℕ → Bool) (rows : List (List Datum)) → kept_left gone (positions schema op rows) ≡ positions schema op (rows_left gone rows)
positions_left schema op gone rows =
    picked_same (passes schema op) (order schema op) (op_total schema op) [] (rows_left gone rows) (kept_left gone (positions schema op rows)) (positions schema op (rows_left gone rows))
    (picked_left gone rows (passes schema op) (order schema op) (positions schema op rows) (picked_positions schema op rows)) (picked_positions schema op (rows_left gone rows))

-- the rows that a watch shows of those that stay are the ones of its own that stay
module _ (gone : ℕ → Bool) (rows : List (List Datum)) where
  kept_rows : (ks : List ℕ) → ((k : ℕ) → IsIn k ks → k < length rows) → rows_at (rows_left gone rows) (kept_left gone ks) ≡ rows_at rows (filter (λ i. not (gone i)) ks)
  kept_rows [] in_rows = refl
  kept_rows (x ∷ xs) in_rows = at (gone x) refl (kept_rows xs (λ k h. in_rows k (inr h)))
    where
      at : (b : Bool) → gone x ≡ b → rows_at (rows_left gone rows) (kept_left gone xs) ≡ rows_at rows (filter (λ i. not (gone i)) xs) → rows_at (rows_left gone rows) (map (place_left gone) (if not b then x ∷ filter (λ i. not (gone i)) xs else filter (λ i. not (gone i)) xs))
          ≡ rows_at rows (if not b then x ∷ filter (λ i. not (gone i)) xs else filter (λ i. not (gone i)) xs)
      at true e rest = rest
      at false e rest = ap (λ r. r ∷ rows_at (rows_left gone rows) (kept_left gone xs)) (row_left gone rows x (in_rows x (inl refl)) e) ∙ ap (λ rs. get_or rows x [] ∷ rs) rest

  abbrev own : List ℕ → ℕ → Bool
  own ks j = gone (get_or ks j 0)

  front_rows : (ks : List ℕ) (n : ℕ) → n ≤ length ks → rows_at (rows_at rows ks) (staying (own ks) n) ≡ rows_at rows (filter (λ i. not (gone i)) (take n ks))
  front_rows ks zero p = refl
  front_rows ks (suc n) p =
      let near : n < length ks = omega arith in
      let x : ℕ = get_or ks n 0 in
      let front = front_rows ks n (omega arith) in
      let long : take (suc n) ks ≡ take n ks ++ x ∷ [] = ap (λ k. take k ks) (let e : suc n ≡ n + 1 = omega arith in e) ∙ take_more ks n 0 near in
      let right : rows_at rows (filter (λ i. not (gone i)) (take (suc n) ks)) ≡ rows_at rows (filter (λ i. not (gone i)) (take n ks)) ++ rows_at rows (if not (gone x) then x ∷ [] else []) =
      ap (λ ys. rows_at rows (filter (λ i. not (gone i)) ys)) long ∙ ap (rows_at rows) (filter-append (λ i. not (gone i)) (take n ks) (x ∷ []))
      ∙ map-append (λ i. get_or rows i []) (filter (λ i. not (gone i)) (take n ks)) (if not (gone x) then x ∷ [] else []) in
      ap (rows_at (rows_at rows ks)) (filter-append (λ i. not (own ks i)) (numbers n) (n ∷ []))
      ∙ map-append (λ i. get_or (rows_at rows ks) i []) (staying (own ks) n) (if not (gone x) then n ∷ [] else [])
      ∙ ap (λ rs. rs ++ rows_at (rows_at rows ks) (if not (gone x) then n ∷ [] else [])) front
      ∙ ap (λ rs. rows_at rows (filter (λ i. not (gone i)) (take n ks)) ++ rs) (at (gone x) near)
      ∙ sym right
    where
      at : (b : Bool) → n < length ks → rows_at (rows_at rows ks) (if not b then n ∷ [] else []) ≡ rows_at rows (if not b then get_or ks n 0 ∷ [] else [])
      at true q = refl
      at false q = ap (λ r. r ∷ []) (get_or-map (λ i. get_or rows i []) ks n 0 [] q)

  pub left_rows : (ks : List ℕ) → ((k : ℕ) → IsIn k ks → k < length rows) → rows_at (rows_left gone rows) (kept_left gone ks) ≡ rows_left (own ks) (rows_at rows ks)
  left_rows ks in_rows =
      let long = length-map ks (λ i. get_or rows i []) in
      kept_rows ks in_rows
      ∙ ap (λ ys. rows_at rows (filter (λ i. not (gone i)) ys)) (sym (take_all (length ks) ks (omega arith)))
      ∙ sym (front_rows ks (length ks) (omega arith))
      ∙ ap (λ n. rows_at (rows_at rows ks) (staying (own ks) n)) (sym long)

-- rows that go side by side
module _ (at count : ℕ) where
  abbrev span : ℕ → Bool
  span = is_inside at count

  span_low : (k : ℕ) → k < at → span k ≡ false
  span_low k p = ap not (outside_low at count k p)

  span_high : (k : ℕ) → at + count ≤ k → span k ≡ false
  span_high k p = ap not (outside_high at count k p)

  span_here : (k : ℕ) → at ≤ k → k < at + count → span k ≡ true
  span_here k p q = ap not (inside at count k p q)

  span_place : (k : ℕ) → place_left span k ≡ k - min count (k - at)
  span_place zero = omega arith
  span_place (suc k) = elim (cases_lt k at) [
    | inl p ↦ let a = place_stays span k (span_low k p) in let b = span_place k in omega arith
    | inr p ↦ elim (cases_lt k (at + count)) [
      | inl q ↦ let a = place_goes span k (span_here k p q) in let b = span_place k in omega arith
      | inr q ↦ let a = place_stays span k (span_high k q) in let b = span_place k in omega arith
    ]
  ]

  outside_stays : (x : ℕ) (xs : List ℕ) → is_outside at count x ≡ true → kept_outside at count (x ∷ xs) ≡ moved_down at count x ∷ kept_outside at count xs
  outside_stays x xs e = here (is_outside at count x) e
    where
      here : (b : Bool) → b ≡ true → map (moved_down at count) (if b then x ∷ filter (is_outside at count) xs else filter (is_outside at count) xs) ≡ moved_down at count x ∷ kept_outside at count xs
      here true f = refl
      here false f = cc

  outside_goes : (x : ℕ) (xs : List ℕ) → is_outside at count x ≡ false → kept_outside at count (x ∷ xs) ≡ kept_outside at count xs
  outside_goes x xs e = here (is_outside at count x) e
    where
      here : (b : Bool) → b ≡ false → map (moved_down at count) (if b then x ∷ filter (is_outside at count) xs else filter (is_outside at count) xs) ≡ kept_outside at count xs
      here false f = refl
      here true f = cc

  down_low : (k : ℕ) → k < at → moved_down at count k ≡ k
  down_low k p = grind (arith, nat_tests)

  down_high : (k : ℕ) → at ≤ k → moved_down at count k ≡ k - count
  down_high k p = grind (arith, nat_tests)

  pub kept_span : (ks : List ℕ) → kept_outside at count ks ≡ kept_left span ks
  kept_span [] = refl
  kept_span (x ∷ xs) = elim (cases_lt x at) [
    | inl p ↦
        let e : x ≡ place_left span x = let a = span_place x in omega arith in
        outside_stays x xs (outside_low at count x p) ∙ ap (λ y. y ∷ kept_outside at count xs) (down_low x p ∙ e) ∙ ap (λ ys. place_left span x ∷ ys) (kept_span xs) ∙ sym (kept_stays span x xs (span_low x p))
    | inr p ↦ elim (cases_lt x (at + count)) [
      | inl q ↦ outside_goes x xs (inside at count x p q) ∙ kept_span xs ∙ sym (kept_goes span x xs (span_here x p q))
      | inr q ↦
          let e : x - count ≡ place_left span x = let a = span_place x in omega arith in
          outside_stays x xs (outside_high at count x q) ∙ ap (λ y. y ∷ kept_outside at count xs) (down_high x p ∙ e) ∙ ap (λ ys. place_left span x ∷ ys) (kept_span xs) ∙ sym (kept_stays span x xs (span_high x q))
    ]
  ]

  pub rows_span : (rows : List (List Datum)) → at + count ≤ length rows → take at rows ++ drop (at + count) rows ≡ rows_left span rows
  rows_span rows le = same_lists (take at rows ++ drop (at + count) rows) (rows_left span rows) (omega (arith, long, left_long span rows, span_place (length rows))) each
    where
      front : length (take at rows) ≡ at
      front = length-take-le at rows (omega arith)

      long : length (take at rows ++ drop (at + count) rows) ≡ length rows - count
      long = let a = length-append (take at rows) (drop (at + count) rows) in let b = length-drop (at + count) rows in let c = front in omega arith

      read : (k : ℕ) (d : List Datum) → k < length rows → span k ≡ false → (i : ℕ) → i ≡ place_left span k → get_or (take at rows ++ drop (at + count) rows) i d ≡ get_or rows k d
      read k d p e i is = elim (cases_lt k at) [
        | inl q ↦
            let same : i ≡ k = let a = span_place k in omega arith in
            let f = front in
            ap (λ j. get_or (take at rows ++ drop (at + count) rows) j d) same ∙ get_or_append_left (take at rows) (drop (at + count) rows) d k (omega arith) ∙ get_or-take at rows k d q
        | inr q ↦ elim (cases_lt k (at + count)) [
          | inl r ↦ cc (e, span_here k q r)
          | inr r ↦
              let same : i ≡ k - count = let a = span_place k in omega arith in
              get_or-append_right (take at rows) (drop (at + count) rows) at i d front (omega arith) ∙ get_or-drop (at + count) rows (i - at) d
              ∙ ap (λ j. get_or rows j d) (let z : at + count + (i - at) ≡ k = omega arith in z)
        ]
      ]

      each : (i : ℕ) (d : List Datum) → i < length (take at rows ++ drop (at + count) rows) → get_or (take at rows ++ drop (at + count) rows) i d ≡ get_or (rows_left span rows) i d
      each i d p =
          let l = long in
          let a = span_place (length rows) in
          let r = came_from span (length rows) i (omega arith) in
          let b = left_long span rows in
          read r.0 d r.1 r.2 i (sym r.3) ∙ get_or_default rows r.0 d [] r.1
          ∙ sym (get_or-map (λ j. get_or rows j []) (staying span (length rows)) i 0 d (omega arith) ∙ ap (λ j. get_or rows j []) (ap (λ j. get_or (staying span (length rows)) j 0) (sym r.3) ∙ stay_at span (length rows) r.0 r.1 r.2))

-- what goes from a place on
abbrev pub from : ℕ → (ℕ → Bool) → ℕ → Bool
from i gone j = if nat_lt j i then false else gone j

from_low : (i : ℕ) (gone : ℕ → Bool) (j : ℕ) → j < i → from i gone j ≡ false
from_low i gone j p = ap (λ b. if b then false else gone j) (lt-ltb j i p)

from_high : (i : ℕ) (gone : ℕ → Bool) (j : ℕ) → i ≤ j → from i gone j ≡ gone j
from_high i gone j p = ap (λ b. if b then false else gone j) (le-ltb j i p)

module _ (gone : ℕ → Bool) where
  -- the places below do not move
  low_place : (i k : ℕ) → k ≤ i → place_left (from i gone) k ≡ k
  low_place i zero p = refl
  low_place i (suc k) p = let a = place_stays (from i gone) k (from_low i gone k p) in let b = low_place i k (omega arith) in omega arith

  -- where none goes
  pub kept_none : (i : ℕ) (ks : List ℕ) → ((k : ℕ) → IsIn k ks → k < i) → kept_left (from i gone) ks ≡ ks
  kept_none i [] below = refl
  kept_none i (x ∷ xs) below =
      let p = below x (inl refl) in
      kept_stays (from i gone) x xs (from_low i gone x p) ∙ ap (λ y. y ∷ kept_left (from i gone) xs) (low_place i x (omega arith)) ∙ ap (λ ys. x ∷ ys) (kept_none i xs (λ k h. below k (inr h)))

  pub kept_whole : (ks : List ℕ) → kept_left (from 0 gone) ks ≡ kept_left gone ks
  kept_whole ks = kept_alike (from 0 gone) gone (λ j. from_high 0 gone j (omega arith)) ks

  -- a row that stays
  pub kept_one : (i : ℕ) → 0 < i → gone (i - 1) ≡ false → (ks : List ℕ) → kept_left (from i gone) ks ≡ kept_left (from (i - 1) gone) ks
  kept_one i some e ks = kept_alike (from i gone) (from (i - 1) gone) same ks
    where
      same : (j : ℕ) → from i gone j ≡ from (i - 1) gone j
      same j = elim (cases_lt j (i - 1)) [
        | inl p ↦ from_low i gone j (omega arith) ∙ sym (from_low (i - 1) gone j p)
        | inr p ↦ elim (cases_lt j i) [
          | inl q ↦ from_low i gone j q ∙ sym (from_high (i - 1) gone j p ∙ ap gone (let z : j ≡ i - 1 = omega arith in z) ∙ e)
          | inr q ↦ from_high i gone j q ∙ sym (from_high (i - 1) gone j p)
        ]
      ]

  -- a run of rows that go
  module _ (a i : ℕ) (le : a ≤ i) (run_goes : (j : ℕ) → a ≤ j → j < i → gone j ≡ true) where
    run_place : (m : ℕ) → a + m ≤ i → place_left (from a gone) (a + m) ≡ a
    run_place zero p = low_place a (a + 0) (omega arith) ∙ (let z : a + 0 ≡ a = omega arith in z)
    run_place (suc m) p =
        let here : from a gone (a + m) ≡ true = from_high a gone (a + m) (omega arith) ∙ run_goes (a + m) (omega arith) (omega arith) in
        ap (place_left (from a gone)) (let z : a + suc m ≡ suc (a + m) = omega arith in z) ∙ place_goes (from a gone) (a + m) here ∙ run_place m (omega arith)

    high_place : (m : ℕ) → place_left (from a gone) (i + m) + (i - a) ≡ place_left (from i gone) (i + m)
    high_place zero =
        let one = ap (place_left (from a gone)) (let z : i + 0 ≡ a + (i - a) = omega arith in z) ∙ run_place (i - a) (omega arith) in
        let two = low_place i (i + 0) (omega arith) in
        omega arith
    high_place (suc m) =
        let step : i + suc m ≡ suc (i + m) = omega arith in
        let below = high_place m in
        let one = ap (place_left (from a gone)) step in
        let two = ap (place_left (from i gone)) step in
        elim (stays_or_goes (gone (i + m))) [
          | inl e ↦
              let b = place_stays (from a gone) (i + m) (from_high a gone (i + m) (omega arith) ∙ e) in
              let c = place_stays (from i gone) (i + m) (from_high i gone (i + m) (omega arith) ∙ e) in
              omega arith
          | inr e ↦
              let b = place_goes (from a gone) (i + m) (from_high a gone (i + m) (omega arith) ∙ e) in
              let c = place_goes (from i gone) (i + m) (from_high i gone (i + m) (omega arith) ∙ e) in
              omega arith
        ]

    pub kept_run : (ks : List ℕ) → kept_outside a (i - a) (kept_left (from i gone) ks) ≡ kept_left (from a gone) ks
    kept_run [] = refl
    kept_run (x ∷ xs) = elim (cases_lt x i) [
      | inl p ↦
          let stays_here : kept_left (from i gone) (x ∷ xs) ≡ x ∷ kept_left (from i gone) xs =
          kept_stays (from i gone) x xs (from_low i gone x p) ∙ ap (λ y. y ∷ kept_left (from i gone) xs) (low_place i x (omega arith)) in
          ap (kept_outside a (i - a)) stays_here ∙ elim (cases_lt x a) [
            | inl q ↦
                outside_stays a (i - a) x (kept_left (from i gone) xs) (outside_low a (i - a) x q) ∙ ap (λ y. y ∷ kept_outside a (i - a) (kept_left (from i gone) xs)) (down_low a (i - a) x q ∙ sym (low_place a x (omega arith)))
                ∙ ap (λ ys. place_left (from a gone) x ∷ ys) (kept_run xs) ∙ sym (kept_stays (from a gone) x xs (from_low a gone x q))
            | inr q ↦
                outside_goes a (i - a) x (kept_left (from i gone) xs) (inside a (i - a) x q (omega arith)) ∙ kept_run xs
                ∙ sym (kept_goes (from a gone) x xs (from_high a gone x q ∙ run_goes x q p))
          ]
      | inr p ↦ elim (stays_or_goes (gone x)) [
        | inl e ↦
            let at : place_left (from i gone) x ≡ place_left (from a gone) x + (i - a) =
            let z : i + (x - i) ≡ x = omega arith in
            sym (ap (λ k. place_left (from a gone) k + (i - a)) (sym z) ∙ high_place (x - i) ∙ ap (place_left (from i gone)) z) in
            let far : i ≤ place_left (from i gone) x = let b = place_le (from i gone) i x p in let c = low_place i i (omega arith) in omega arith in
            let past : a + (i - a) ≤ place_left (from i gone) x = omega arith in
            let down : moved_down a (i - a) (place_left (from i gone) x) ≡ place_left (from a gone) x = down_high a (i - a) (place_left (from i gone) x) (omega arith) ∙ (let z : place_left (from i gone) x - (i - a) ≡ place_left (from a gone) x = omega arith in z) in
            ap (kept_outside a (i - a)) (kept_stays (from i gone) x xs (from_high i gone x p ∙ e))
            ∙ outside_stays a (i - a) (place_left (from i gone) x) (kept_left (from i gone) xs) (outside_high a (i - a) (place_left (from i gone) x) past)
            ∙ ap (λ y. y ∷ kept_outside a (i - a) (kept_left (from i gone) xs)) down ∙ ap (λ ys. place_left (from a gone) x ∷ ys) (kept_run xs)
            ∙ sym (kept_stays (from a gone) x xs (from_high a gone x (omega arith) ∙ e))
        | inr e ↦
            ap (kept_outside a (i - a)) (kept_goes (from i gone) x xs (from_high i gone x p ∙ e)) ∙ kept_run xs
            ∙ sym (kept_goes (from a gone) x xs (from_high a gone x (omega arith) ∙ e))
      ]
    ]

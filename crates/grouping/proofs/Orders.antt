-- The positions in order, and the places at which groups begin.
use Rattle.std.proofs.Common.{◌≡◌, ◌⊎◌, ℕ, zero, suc, ◌+◌, ◌-◌, ◌<◌, ◌≤◌, Bool, true, false, not, cond, List, [], ◌∷◌, ◌++◌, length, get_or, take, drop, map, filter, refl, ap, sym, subst, ◌∙◌, inl, inr, arith}
use Rattle.std.specs.declared.cmp.Ordering.{Ordering}
use Rattle.std.specs.declared.cmp.Ordering.TheVariants.{Less, Equal, Greater}
use Rattle.std.specs.Ordering.{is_eq, is_lt, nat_cmp, ordering_then}
use Rattle.std.specs.Cmp.{nat_cmp_total}
use Rattle.std.proofs.lemmas.Bool.{false≢true, cases_Bool, cases_lt}
use Rattle.std.proofs.lemmas.Cmp.{tied_itself}
use Rattle.std.proofs.lemmas.List.{map-append, length-append, get_or_append_left, get_or-append_right, get_or_past}
use Rattle.mk_value.specs.Data.{Datum}
use Rattle.relations.specs.Equality.{same_row}
use Rattle.relations.specs.WholeOrder.{whole_row_cmp}
use Rattle.relations.specs.OrderLaws.{whole_row_cmp_total, whole_row_ties}
use Rattle.grouping.specs.Index.{positions_of, keys_of, entry_cmp, IsOrderOf, is_start, starts_below}
use Rattle.relations.proofs.Ascending.{IsIn, each_from_in, in_at, place_of, in_from_contains, Ascends, ascends_same, ascends_from_pairs}
use Rattle.grouping.proofs.Ascending.{in_map_back, in_left, in_right, in_either, in_filter, in_filter_back, ascends_push, ascends_filter, ascends_weaker}
use Rattle.relations.proofs.Equal.{rows_equal, same_from_equal, same_row_is, same_row_symm}
use Rattle.mk_value.proofs.Walks.{same_default}
use Rattle.grouping.proofs.DistinctRows.{keys_are}
use Rattle.grouping.proofs.Positions.{in_positions, in_positions_back, positions_up}

-- the elements that pass are those in one part, where just these pass
filter_none : (p : ℕ → Bool) (xs : List ℕ) → ((k : ℕ) → k < length xs → p (get_or xs k 0) ≡ false) → filter p xs ≡ []
filter_none p [] none = refl
filter_none p (x ∷ xs) none =
    ap (λ b. cond b (x ∷ filter p xs) (filter p xs)) (none 0 (omega arith)) ∙ filter_none p xs (λ k q. none (suc k) (omega arith))

filter_range : (p : ℕ → Bool) (xs : List ℕ) (s c : ℕ) → s + c ≤ length xs → ((k : ℕ) → k < s → p (get_or xs k 0) ≡ false) → ((k : ℕ) → s ≤ k → k < s + c → p (get_or xs k 0) ≡ true)
    → ((k : ℕ) → s + c ≤ k → k < length xs → p (get_or xs k 0) ≡ false) → filter p xs ≡ take c (drop s xs)
filter_range p xs zero zero few before within after = filter_none p xs (λ k q. after k (omega arith) q)
filter_range p [] zero (suc c) few before within after = absurd (omega arith)
filter_range p (x ∷ xs) zero (suc c) few before within after =
    ap (λ b. cond b (x ∷ filter p xs) (filter p xs)) (within 0 (omega arith) (omega arith))
    ∙ ap (λ zs. x ∷ zs) (filter_range p xs zero c (omega arith) (λ k q. absurd (omega arith)) (λ k q r. within (suc k) (omega arith) (omega arith)) (λ k q r. after (suc k) (omega arith) (omega arith)))
filter_range p [] (suc s) c few before within after = absurd (omega arith)
filter_range p (x ∷ xs) (suc s) c few before within after =
    ap (λ b. cond b (x ∷ filter p xs) (filter p xs)) (before 0 (omega arith))
    ∙ filter_range p xs s c (omega arith) (λ k q. before (suc k) (omega arith)) (λ k q r. within (suc k) (omega arith) (omega arith)) (λ k q r. after (suc k) (omega arith) (omega arith))

then_less : (o p : Ordering) → ordering_then o p ≡ Less → (o ≡ Less) ⊎ ((o ≡ Equal) × (p ≡ Less))
then_less Less p e = inl refl
then_less Equal p e = inr (refl, e)
then_less Greater p e = absurd (false≢true (ap is_lt e))

append_nil : {X : Type 0} (xs : List X) → xs ++ [] ≡ xs
append_nil [] = refl
append_nil (x ∷ xs) = ap (λ ys. x ∷ ys) (append_nil xs)

not_false : (b : Bool) → not b ≡ false → b ≡ true
not_false true e = refl
not_false false e = absurd (false≢true (sym e))

not_true : (b : Bool) → not b ≡ true → b ≡ false
not_true true e = absurd (false≢true e)
not_true false e = refl

module _ (rows : List (List Datum)) (order : List ℕ) (whole : IsOrderOf rows order) where
  abbrev row_at : ℕ → List Datum
  row_at k = get_or rows (get_or order k 0) []

  -- a later row is the same or greater
  later : (j k : ℕ) → j < k → k < length order → (whole_row_cmp (row_at j) (row_at k) ≡ Less) ⊎ (row_at j ≡ row_at k)
  later j k p q = elim (then_less (whole_row_cmp (row_at j) (row_at k)) (nat_cmp (get_or order j 0) (get_or order k 0)) (whole.ascending j k 0 p q)) [
    | inl e ↦ inl e
    | inr e ↦ inr (whole_row_ties (row_at j) (row_at k) e.0)
  ]

  -- where a group begins, all rows before are less
  start_above : (j k : ℕ) → j < k → k < length order → is_start rows order k ≡ true → whole_row_cmp (row_at j) (row_at k) ≡ Less
  start_above j zero p q start = absurd (omega arith)
  start_above j (suc k) p q start =
      let apart : same_row (row_at k) (row_at (suc k)) ≡ false = not_true (same_row (row_at k) (row_at (suc k))) start in
      let step : whole_row_cmp (row_at k) (row_at (suc k)) ≡ Less = elim (later k (suc k) (omega arith) q) [
        | inl e ↦ e
        | inr e ↦ absurd (false≢true (sym apart ∙ same_from_equal (row_at k) (row_at (suc k)) e))
      ] in
      elim (cases_lt j k) [
        | inl r ↦ elim (later j k r (omega arith)) [
          | inl e ↦ whole_row_cmp_total.trans (row_at j) (row_at k) (row_at (suc k)) e step
          | inr e ↦ subst (λ z. whole_row_cmp z (row_at (suc k)) ≡ Less) (sym e) step
        ]
        | inr r ↦ (let same : j ≡ k = omega arith in subst (λ z. whole_row_cmp (row_at z) (row_at (suc k)) ≡ Less) (sym same) step)
      ]

  -- elsewhere the row before is the same
  start_not : (k : ℕ) → is_start rows order (suc k) ≡ false → row_at k ≡ row_at (suc k)
  start_not k e = rows_equal (row_at k) (row_at (suc k)) (not_false (same_row (row_at k) (row_at (suc k))) e)

  abbrev starts : ℕ → List ℕ
  starts n = starts_below rows order n

  pub start_in : (n s : ℕ) → IsIn s (starts n) → (s < n) × (is_start rows order s ≡ true)
  start_in zero s h = absurd h
  start_in (suc n) s h = elim (in_either (starts n) (cond (is_start rows order n) (n ∷ []) []) s h) [
    | inl g ↦ (let r = start_in n s g in let p = r.0 in let q : s < suc n = omega arith in (q, r.1))
    | inr g ↦ last (is_start rows order n) refl g
  ]
    where
      last : (b : Bool) → is_start rows order n ≡ b → IsIn s (cond b (n ∷ []) []) → (s < suc n) × (is_start rows order s ≡ true)
      last true e (inl i) = let q : s < suc n = omega arith in (q, subst (λ z. is_start rows order z ≡ true) i e)
      last true e (inr none) = absurd none
      last false e none = absurd none

  keys_up : (n : ℕ) → n ≤ length order → Ascends whole_row_cmp (map row_at (starts n))
  keys_up zero few = tt
  keys_up (suc n) few = more (is_start rows order n) refl (keys_up n (omega arith))
    where
      more : (b : Bool) → is_start rows order n ≡ b → Ascends whole_row_cmp (map row_at (starts n)) → Ascends whole_row_cmp (map row_at (starts n ++ cond b (n ∷ []) []))
      more true e up =
          subst (Ascends whole_row_cmp) (sym (map-append row_at (starts n) (n ∷ [])))
          (ascends_push whole_row_cmp (map row_at (starts n)) (row_at n) up (each_from_in (λ z. whole_row_cmp z (row_at n) ≡ Less) (map row_at (starts n)) (λ z h.
          let r = in_map_back row_at (starts n) z h in
          subst (λ w. whole_row_cmp w (row_at n) ≡ Less) r.2 (start_above r.0 n (start_in n r.0 r.1).0 (omega arith) e))))
      more false e up = subst (λ zs. Ascends whole_row_cmp (map row_at zs)) (sym (append_nil (starts n))) up

  keys_cover : (n k : ℕ) → k < n → IsIn (row_at k) (map row_at (starts n))
  keys_cover zero k p = absurd (omega arith)
  keys_cover (suc n) k p =
      subst (IsIn (row_at k)) (sym (map-append row_at (starts n) (cond (is_start rows order n) (n ∷ []) [])))
      (elim (cases_lt k n) [
        | inl q ↦ in_left (map row_at (starts n)) (map row_at (cond (is_start rows order n) (n ∷ []) [])) (row_at k) (keys_cover n k q)
        | inr q ↦ (let same : n ≡ k = omega arith in subst (λ z. IsIn (row_at z) (map row_at (starts n) ++ map row_at (cond (is_start rows order n) (n ∷ []) []))) same (at n (keys_cover n)))
      ])
    where
      at : (m : ℕ) → ((k : ℕ) → k < m → IsIn (row_at k) (map row_at (starts m))) → IsIn (row_at m) (map row_at (starts m) ++ map row_at (cond (is_start rows order m) (m ∷ []) []))
      at zero below = inl refl
      at (suc m) below = elim (cases_Bool (is_start rows order (suc m))) [
        | inl t ↦ in_right (map row_at (starts (suc m))) (map row_at (cond (is_start rows order (suc m)) (suc m ∷ []) [])) (row_at (suc m))
            (subst (λ b. IsIn (row_at (suc m)) (map row_at (cond b (suc m ∷ []) []))) (sym t) (inl refl))
        | inr f ↦ in_left (map row_at (starts (suc m))) (map row_at (cond (is_start rows order (suc m)) (suc m ∷ []) [])) (row_at (suc m))
            (subst (λ z. IsIn z (map row_at (starts (suc m)))) (start_not m f) (below m (omega arith)))
      ]

  -- the rows at the starts are the keys
  pub keys_at_starts : map row_at (starts (length order)) ≡ keys_of rows
  keys_at_starts =
      keys_are rows (map row_at (starts (length order))) (keys_up (length order) (omega arith))
      (λ z h. let r = in_map_back row_at (starts (length order)) z h in
      subst (λ w. IsIn w rows) r.2 (in_at rows (get_or order r.0 0) [] (whole.in_range r.0 0 (start_in (length order) r.0 r.1).0)))
      (λ z h. let r = place_of rows z h in
      let c = whole.complete r.0 r.1 in
      let at = place_of order r.0 (in_from_contains order r.0 c) in
      let same : row_at at.0 ≡ z = ap (λ i. get_or rows i []) (at.2 0) ∙ r.2 [] in
      subst (λ w. IsIn w (map row_at (starts (length order)))) same (keys_cover (length order) at.0 at.1))

  -- a group from its start up to its end, among the places below n
  record IsPart (n s e : ℕ) : Type 0 where
    begins : is_start rows order s ≡ true
    some : s < e
    few : e ≤ n
    inside : (t : ℕ) → s < t → t < e → is_start rows order t ≡ false
    next : (e ≡ n) ⊎ (is_start rows order e ≡ true)

  part_same : (n s e u v : ℕ) → s ≡ u → e ≡ v → IsPart n s e → IsPart n u v
  part_same n s e u v p q part = subst (λ w. IsPart n u w) q (subst (λ w. IsPart n w e) p part)

  is_part : (n g : ℕ) → g < length (starts n) → IsPart n (get_or (starts n) g 0) (get_or (starts n) (g + 1) n)
  is_part zero g p = absurd (omega arith)
  is_part (suc n) g p = more (is_start rows order n) refl (is_part n) p
    where
      -- nothing begins at n
      longer : is_start rows order n ≡ false → g < length (starts n) → IsPart n (get_or (starts n) g 0) (get_or (starts n) (g + 1) n) → IsPart (suc n) (get_or (starts n) g 0) (get_or (starts n) (g + 1) (suc n))
      longer e p part = elim (cases_lt (g + 1) (length (starts n))) [
        | inl q ↦ part_same (suc n) (get_or (starts n) g 0) (get_or (starts n) (g + 1) n) (get_or (starts n) g 0) (get_or (starts n) (g + 1) (suc n)) refl (same_default (starts n) (g + 1) n (suc n) q)
            (record {
              begins = part.begins;
              some = part.some;
              few = let r = part.few in omega arith;
              inside = part.inside;
              next = inr (start_in n (get_or (starts n) (g + 1) n) (in_at (starts n) (g + 1) n q)).1;
            })
        | inr q ↦ (let past = get_or_past (starts n) (g + 1) n q in
            part_same (suc n) (get_or (starts n) g 0) (suc n) (get_or (starts n) g 0) (get_or (starts n) (g + 1) (suc n)) refl (sym (get_or_past (starts n) (g + 1) (suc n) q))
            (record {
              begins = part.begins;
              some = let r = part.some in omega arith;
              few = omega arith;
              inside = λ t a b. elim (cases_lt t n) [ inl c ↦ part.inside t a (omega arith) | inr c ↦ (let same : n ≡ t = omega arith in subst (λ z. is_start rows order z ≡ false) same e) ];
              next = inl refl;
            }))
      ]

      -- a group begins at n
      behind : is_start rows order n ≡ true → (g : ℕ) → g < length (starts n ++ n ∷ []) → ((g : ℕ) → g < length (starts n) → IsPart n (get_or (starts n) g 0) (get_or (starts n) (g + 1) n))
          → IsPart (suc n) (get_or (starts n ++ n ∷ []) g 0) (get_or (starts n ++ n ∷ []) (g + 1) (suc n))
      behind e g p before = elim (cases_lt g (length (starts n))) [
        | inl q ↦ (let part = before g q in
            let end : get_or (starts n) (g + 1) n ≡ get_or (starts n ++ n ∷ []) (g + 1) (suc n) = elim (cases_lt (g + 1) (length (starts n))) [
              | inl r ↦ same_default (starts n) (g + 1) n (suc n) r ∙ sym (get_or_append_left (starts n) (n ∷ []) (suc n) (g + 1) r)
              | inr r ↦ (let at : g + 1 - (g + 1) ≡ 0 = omega arith in
                  get_or_past (starts n) (g + 1) n r ∙ sym (get_or-append_right (starts n) (n ∷ []) (g + 1) (g + 1) (suc n) (omega arith) (omega arith) ∙ ap (λ z. get_or (n ∷ []) z (suc n)) at))
            ] in
            part_same (suc n) (get_or (starts n) g 0) (get_or (starts n) (g + 1) n) (get_or (starts n ++ n ∷ []) g 0) (get_or (starts n ++ n ∷ []) (g + 1) (suc n))
            (sym (get_or_append_left (starts n) (n ∷ []) 0 g q)) end
            (record {
              begins = part.begins;
              some = part.some;
              few = let r = part.few in omega arith;
              inside = part.inside;
              next = elim part.next [ inl c ↦ inr (subst (λ z. is_start rows order z ≡ true) (sym c) e) | inr c ↦ inr c ];
            }))
        | inr q ↦ (let long = length-append (starts n) (n ∷ []) in
            let at : length (starts n) ≡ g = omega arith in
            let here : g - g ≡ 0 = omega arith in
            part_same (suc n) n (suc n) (get_or (starts n ++ n ∷ []) g 0) (get_or (starts n ++ n ∷ []) (g + 1) (suc n))
            (sym (get_or-append_right (starts n) (n ∷ []) g g 0 at (omega arith) ∙ ap (λ z. get_or (n ∷ []) z 0) here))
            (sym (get_or_past (starts n ++ n ∷ []) (g + 1) (suc n) (omega arith)))
            (record {
              begins = e;
              some = omega arith;
              few = omega arith;
              inside = λ t a b. absurd (omega arith);
              next = inl refl;
            }))
      ]

      more : (b : Bool) → is_start rows order n ≡ b → ((g : ℕ) → g < length (starts n) → IsPart n (get_or (starts n) g 0) (get_or (starts n) (g + 1) n)) → g < length (starts n ++ cond b (n ∷ []) [])
          → IsPart (suc n) (get_or (starts n ++ cond b (n ∷ []) []) g 0) (get_or (starts n ++ cond b (n ∷ []) []) (g + 1) (suc n))
      more true e before p = behind e g p before
      more false e before p =
          let same = append_nil (starts n) in
          let q : g < length (starts n) = subst (λ (zs : List ℕ). g < length zs) same p in
          subst (λ (zs : List ℕ). IsPart (suc n) (get_or zs g 0) (get_or zs (g + 1) (suc n))) (sym same) (longer e q (before g q))

  within : (n s e : ℕ) → IsPart n s e → (k : ℕ) → s ≤ k → k < e → row_at s ≡ row_at k
  within n s e part zero p q = let same : s ≡ 0 = omega arith in ap row_at same
  within n s e part (suc k) p q = elim (cases_lt k s) [
    | inl r ↦ (let same : s ≡ suc k = omega arith in ap row_at same)
    | inr r ↦ within n s e part k r (omega arith) ∙ start_not k (part.inside (suc k) (omega arith) q)
  ]

  other_row : (a b : List Datum) → whole_row_cmp a b ≡ Less → same_row a b ≡ false
  other_row a b e = same_row_is a b ∙ ap is_eq e

  order_of_key : (key : List Datum) → filter (λ i. same_row (get_or rows i []) key) order ≡ positions_of rows key
  order_of_key key =
      let test : ℕ → Bool = λ i. same_row (get_or rows i []) key in
      ascends_same nat_cmp_total (filter test order) (positions_of rows key)
      (ascends_weaker (entry_cmp rows) nat_cmp (filter test order)
      (λ i j g h e.
      let one = rows_equal (get_or rows i []) key (in_filter_back test order i g).1 in
      let two = rows_equal (get_or rows j []) key (in_filter_back test order j h).1 in
      let tied : whole_row_cmp (get_or rows i []) (get_or rows j []) ≡ Equal =
      ap (λ z. whole_row_cmp (get_or rows i []) z) (two ∙ sym one) ∙ tied_itself whole_row_cmp_total (get_or rows i []) in
      sym (ap (λ o. ordering_then o (nat_cmp i j)) tied) ∙ e)
      (ascends_filter (entry_cmp rows) test order (ascends_from_pairs (entry_cmp rows) order whole.ascending)))
      (positions_up rows key)
      (λ i h. let r = in_filter_back test order i h in
      let at = place_of order i r.0 in
      in_positions rows key i (subst (λ z. z < length rows) (at.2 0) (whole.in_range at.0 0 at.1)) r.1)
      (λ i h. let r = in_positions_back rows key i h in
      in_filter test order i (in_from_contains order i (whole.complete i r.0)) r.1)

  -- the positions from a start up to the next are those of the row there
  pub group_positions : (g s e : ℕ) → g < length (starts (length order)) → s ≡ get_or (starts (length order)) g 0 → e ≡ get_or (starts (length order)) (g + 1) (length order)
      → (s < e) × (e ≤ length order) × (take (e - s) (drop s order) ≡ positions_of rows (row_at s))
  group_positions g s e p at end =
      let part = part_same (length order) (get_or (starts (length order)) g 0) (get_or (starts (length order)) (g + 1) (length order)) s e (sym at) (sym end) (is_part (length order) g p) in
      let some = part.some in
      let few = part.few in
      let test : ℕ → Bool = λ i. same_row (get_or rows i []) (row_at s) in (
        some,
        few,
        sym (filter_range test order s (e - s) (omega arith)
            (λ k q. other_row (row_at k) (row_at s) (start_above k s q (omega arith) part.begins))
            (λ k q r. same_from_equal (row_at k) (row_at s) (sym (within (length order) s e part k q (omega arith))))
            (λ k q r. same_row_symm (row_at k) (row_at s) ∙ other_row (row_at s) (row_at k) (elim part.next [
              | inl c ↦ absurd (omega arith)
              | inr c ↦ (let first = start_above s e some (omega arith) c in elim (cases_lt e k) [
                | inl d ↦ elim (later e k d r) [
                  | inl f ↦ whole_row_cmp_total.trans (row_at s) (row_at e) (row_at k) first f
                  | inr f ↦ subst (λ z. whole_row_cmp (row_at s) z ≡ Less) f first
                ]
                | inr d ↦ (let same : e ≡ k = omega arith in subst (λ z. whole_row_cmp (row_at s) (row_at z) ≡ Less) same first)
              ])
            ])))
            ∙ order_of_key (row_at s),
      )

-- Of rows in the order of keys those that have given values stand side by side.
use Rattle.std.proofs.Common.{◌≡◌, ℕ, zero, suc, ◌+◌, ◌-◌, ◌<◌, ◌≤◌, Bool, true, false, ◌&&◌, List, [], ◌∷◌, length, get_or, map, take, All, refl, ap, sym, ◌∙◌, arith}
use Rattle.std.specs.declared.cmp.Ordering.{Ordering}
use Rattle.std.specs.declared.cmp.Ordering.TheVariants.{Less, Equal, Greater}
use Rattle.std.specs.Cmp.{IsTotalOrder}
use Rattle.std.specs.List.{count_by, prefix_len}
use Rattle.std.specs.List.Sorted.{IsSorted}
use Rattle.std.specs.Ordering.{is_eq, is_ge, is_le, is_lt, ordering_reverse, ordering_then}
use Rattle.std.proofs.lemmas.Bool.{false≢true}
use Rattle.std.proofs.lemmas.List.{take_all}
use Rattle.std.proofs.lemmas.List.Elements.{All-head, All-tail}
use Rattle.std.proofs.lemmas.List.Sorted.{ranks_by, sorted_far}
use Rattle.std.proofs.lemmas.List.Sums.{count_by_more_no, count_by_more_yes, prefix_len-le-length, prefix_len_passes, prefix_len_stops}
use Rattle.mk_value.specs.Data.{Datum}
use Rattle.mk_value.specs.Heading.{Attribute}
use Rattle.mk_value.specs.Order.{turned, value_cmp}
use Rattle.relations.specs.Criteria.{Interval, is_in_range}
use Rattle.relations.specs.Rows.{value_of}
use Rattle.relations.specs.Searching.{asked_cmp, rows_before}
use Rattle.relations.specs.Sorting.{row_cmp}
use Rattle.relations.specs.declared.criteria.Key.{Key}
use Rattle.relations.proofs.Halving.{behind_all, count_front}
use Rattle.relations.proofs.RowOrder.{row_cmp_total, turned_total}

-- x is one row's value, y that of a later row, and v what is asked for
step : {D : Type 0} (R : D → D → Ordering) → IsTotalOrder R → (x y v : D) (o p q : Ordering) (r s t : Ordering) → R y x ≡ o → R y v ≡ p → R x v ≡ q
    → is_lt (ordering_then o r) ≡ false → is_le (ordering_then p s) ≡ true → (is_lt r ≡ false → is_le s ≡ true → is_le t ≡ true) → is_le (ordering_then q t) ≡ true
step R total x y v Less p q r s t eo ep eq f g rest = absurd (false≢true (sym f))
step R total x y v Equal Less q r s t eo ep eq f g rest =
    let e : q ≡ Less = sym eq ∙ sym (total.congr y x v eo) ∙ ep in
    ap (λ z. is_le (ordering_then z t)) e
step R total x y v Equal Equal q r s t eo ep eq f g rest =
    let e : q ≡ Equal = sym eq ∙ sym (total.congr y x v eo) ∙ ep in
    ap (λ z. is_le (ordering_then z t)) e ∙ rest f g
step R total x y v Equal Greater q r s t eo ep eq f g rest = absurd (false≢true g)
step R total x y v Greater Less q r s t eo ep eq f g rest =
    let back : R x y ≡ Less = total.antisymm x y ∙ ap ordering_reverse eo in
    ap (λ z. is_le (ordering_then z t)) (sym eq ∙ total.trans x y v back ep)
step R total x y v Greater Equal q r s t eo ep eq f g rest =
    let tied : R v x ≡ Greater = sym (total.congr y v x ep) ∙ eo in
    ap (λ z. is_le (ordering_then z t)) (sym eq ∙ total.antisymm x v ∙ ap ordering_reverse tied)
step R total x y v Greater Greater q r s t eo ep eq f g rest = absurd (false≢true g)

head_name : (a b : List ℕ) (xs ys : List (List ℕ)) → a ∷ xs ≡ b ∷ ys → a ≡ b
head_name a b xs ys e = cc

tail_names : (a b : List ℕ) (xs ys : List (List ℕ)) → a ∷ xs ≡ b ∷ ys → xs ≡ ys
tail_names a b xs ys e = cc

no_names : (a : List ℕ) (xs : List (List ℕ)) → a ∷ xs ≡ [] → ⊥
no_names a xs e = cc

-- where a later row does not come behind the values, an earlier one does not
earlier : (schema : List Attribute) (keys : List Key) (criteria : List Interval) (x y : List Datum) → map (λ (c : Interval). c.prop) criteria ≡ take (length criteria) (map (λ (k : Key). k.prop) keys)
    → is_lt (row_cmp schema keys y x) ≡ false → is_le (asked_cmp schema keys criteria y) ≡ true → is_le (asked_cmp schema keys criteria x) ≡ true
earlier schema [] criteria x y names f g = refl
earlier schema (k ∷ keys) [] x y names f g = refl
earlier schema (k ∷ keys) (c ∷ criteria) x y names f g =
    let name = head_name c.prop k.prop (map (λ (c : Interval). c.prop) criteria) (take (length criteria) (map (λ (k : Key). k.prop) keys)) names in
    let R : Datum → Datum → Ordering = λ a b. turned k.down (value_cmp a b) in
    let one : R (value_of schema y c.prop) (value_of schema x c.prop) ≡ R (value_of schema y k.prop) (value_of schema x k.prop) = ap (λ n. R (value_of schema y n) (value_of schema x n)) name in
    step R (turned_total k.down) (value_of schema x c.prop) (value_of schema y c.prop) c.low
    (R (value_of schema y k.prop) (value_of schema x k.prop)) (R (value_of schema y c.prop) c.low) (R (value_of schema x c.prop) c.low)
    (row_cmp schema keys y x) (asked_cmp schema keys criteria y) (asked_cmp schema keys criteria x) one refl refl f g
    (earlier schema keys criteria x y (tail_names c.prop k.prop (map (λ (c : Interval). c.prop) criteria) (take (length criteria) (map (λ (k : Key). k.prop) keys)) names))

-- a value that is asked for by itself
equal_both : (o : Ordering) → (is_ge o && is_le o) ≡ is_eq o
equal_both Less = refl
equal_both Equal = refl
equal_both Greater = refl

then_equal : (down : Bool) (o r : Ordering) → is_eq (ordering_then (turned down o) r) ≡ (is_eq o && is_eq r)
then_equal true Less r = refl
then_equal true Equal r = refl
then_equal true Greater r = refl
then_equal false Less r = refl
then_equal false Equal r = refl
then_equal false Greater r = refl

-- a row has the values exactly where it stands as they do
pub in_range_equal : (schema : List Attribute) (keys : List Key) (criteria : List Interval) (row : List Datum) → map (λ (c : Interval). c.prop) criteria ≡ take (length criteria) (map (λ (k : Key). k.prop) keys)
    → All (λ (c : Interval). c.high ≡ c.low) criteria → is_in_range schema criteria row ≡ is_eq (asked_cmp schema keys criteria row)
in_range_equal schema [] [] row names points = refl
in_range_equal schema (k ∷ keys) [] row names points = refl
in_range_equal schema [] (c ∷ criteria) row names points = absurd (no_names c.prop (map (λ (c : Interval). c.prop) criteria) names)
in_range_equal schema (k ∷ keys) (c ∷ criteria) row names points =
    let v = value_of schema row c.prop in
    let rest = in_range_equal schema keys criteria row (tail_names c.prop k.prop (map (λ (c : Interval). c.prop) criteria) (take (length criteria) (map (λ (k : Key). k.prop) keys)) names) (All-tail (λ (c : Interval). c.high ≡ c.low) c criteria points) in
    ap (λ h. (is_ge (value_cmp v c.low) && is_le (value_cmp v h)) && is_in_range schema criteria row) (All-head (λ (c : Interval). c.high ≡ c.low) c criteria points)
    ∙ ap (λ b. b && is_in_range schema criteria row) (equal_both (value_cmp v c.low))
    ∙ ap (λ b. is_eq (value_cmp v c.low) && b) rest
    ∙ sym (then_equal k.down (value_cmp v c.low) (asked_cmp schema keys criteria row))

le_parts : (o : Ordering) → is_lt o ≡ false → is_le o ≡ true → is_eq o ≡ true
le_parts Less f g = absurd (false≢true (sym f))
le_parts Equal f g = refl
le_parts Greater f g = absurd (false≢true g)

lt_not_equal : (o : Ordering) → is_lt o ≡ true → is_eq o ≡ false
lt_not_equal Less f = refl
lt_not_equal Equal f = absurd (false≢true f)
lt_not_equal Greater f = absurd (false≢true f)

eq_le : (o : Ordering) → is_eq o ≡ true → is_le o ≡ true
eq_le Less f = absurd (false≢true f)
eq_le Equal f = refl
eq_le Greater f = absurd (false≢true f)

-- a test that the elements from one place to another pass, and no other
module _ {X : Type 0} (p : X → Bool) (xs : List X) (d : X) where
  none_front : (n : ℕ) → n ≤ length xs → ((k : ℕ) → k < n → p (get_or xs k d) ≡ false) → count_by p (take n xs) ≡ 0
  none_front zero h front = refl
  none_front (suc n) h front =
      let rest = none_front n (omega arith) (λ k q. front k (omega arith)) in
      let less = count_by_more_no p xs n d (omega arith) (front n (omega arith)) in
      let e : count_by p (take (suc n) xs) ≡ count_by p (take (n + 1) xs) = ap (λ k. count_by p (take k xs)) (let f : suc n ≡ n + 1 = omega arith in f) in
      omega arith

  all_from : (n m : ℕ) → n + m ≤ length xs → ((k : ℕ) → n ≤ k → k < n + m → p (get_or xs k d) ≡ true) → count_by p (take (n + m) xs) ≡ count_by p (take n xs) + m
  all_from n zero h inside = let e : count_by p (take (n + 0) xs) ≡ count_by p (take n xs) = ap (λ k. count_by p (take k xs)) (let f : n + 0 ≡ n = omega arith in f) in omega arith
  all_from n (suc m) h inside =
      let rest = all_from n m (omega arith) (λ k a b. inside k a (omega arith)) in
      let more = count_by_more_yes p xs (n + m) d (omega arith) (inside (n + m) (omega arith) (omega arith)) in
      let e : count_by p (take (n + suc m) xs) ≡ count_by p (take (n + m + 1) xs) = ap (λ k. count_by p (take k xs)) (let f : n + suc m ≡ n + m + 1 = omega arith in f) in
      omega arith

  none_behind : (n m : ℕ) → n + m ≤ length xs → ((k : ℕ) → n ≤ k → k < length xs → p (get_or xs k d) ≡ false) → count_by p (take (n + m) xs) ≡ count_by p (take n xs)
  none_behind n zero h behind = ap (λ k. count_by p (take k xs)) (let f : n + 0 ≡ n = omega arith in f)
  none_behind n (suc m) h behind =
      let rest = none_behind n m (omega arith) behind in
      let less = count_by_more_no p xs (n + m) d (omega arith) (behind (n + m) (omega arith) (omega arith)) in
      let e : count_by p (take (n + suc m) xs) ≡ count_by p (take (n + m + 1) xs) = ap (λ k. count_by p (take k xs)) (let f : n + suc m ≡ n + m + 1 = omega arith in f) in
      omega arith

  pub run_count : (from count : ℕ) → from + count ≤ length xs → ((k : ℕ) → k < from → p (get_or xs k d) ≡ false) → ((k : ℕ) → from ≤ k → k < from + count → p (get_or xs k d) ≡ true)
      → ((k : ℕ) → from + count ≤ k → k < length xs → p (get_or xs k d) ≡ false) → count ≡ count_by p xs
  run_count from count h front inside behind =
      let m = length xs - (from + count) in
      let one = none_front from (omega arith) front in
      let two = all_from from count h inside in
      let three = none_behind (from + count) m (omega arith) behind in
      let all : count_by p (take (from + count + m) xs) ≡ count_by p xs = ap (count_by p) (take_all (from + count + m) xs (omega arith)) in
      omega arith

-- rows in the order of the keys, and values for the first of them
module _ (schema : List Attribute) (keys : List Key) (criteria : List Interval) (rows : List (List Datum)) (names : map (λ (c : Interval). c.prop) criteria ≡ take (length criteria) (map (λ (k : Key). k.prop) keys))
    (points : All (λ (c : Interval). c.high ≡ c.low) criteria) (up : IsSorted (row_cmp schema keys) rows) where
  abbrev order_at : ℕ → Ordering
  order_at k = asked_cmp schema keys criteria (get_or rows k [])

  abbrev passes_at : ℕ → Bool
  passes_at k = is_in_range schema criteria (get_or rows k [])

  same_at : (k : ℕ) → passes_at k ≡ is_eq (order_at k)
  same_at k = in_range_equal schema keys criteria (get_or rows k []) names points

  -- where a row at or behind the first place does not have the values, no later one has
  later_none : (i j : ℕ) → i ≤ j → j < length rows → is_lt (order_at i) ≡ false → passes_at i ≡ false → passes_at j ≡ false
  later_none i j p q f g = at (passes_at j) refl
    where
      at : (b : Bool) → passes_at j ≡ b → passes_at j ≡ false
      at true e =
          let far = sorted_far (λ (x y : List Datum). is_lt (row_cmp schema keys x y)) (ranks_by (row_cmp_total schema keys) (λ (r : List Datum). r)) rows up i j [] p q in
          let le = earlier schema keys criteria (get_or rows i []) (get_or rows j []) names far (eq_le (order_at j) (sym (same_at j) ∙ e)) in
          absurd (false≢true (sym g ∙ same_at i ∙ le_parts (order_at i) f le))
      at false e = e

  -- how many rows come before the values is where the first stands that does not
  abbrev lt_row : List Datum → Bool
  lt_row row = is_lt (asked_cmp schema keys criteria row)

  front_is : rows_before schema keys criteria rows ≡ prefix_len lt_row rows
  front_is = sym (count_front lt_row rows [] (prefix_len lt_row rows) (prefix_len-le-length lt_row rows) (λ k p. prefix_len_passes lt_row rows k [] p)
      (λ k p q. behind_all schema keys criteria rows names up (prefix_len lt_row rows) k p q (prefix_len_stops lt_row rows [] (omega arith))))

  -- the rows that have the values, from the first that does not come before them
  pub values_run : (from count : ℕ) → from ≡ rows_before schema keys criteria rows → from + count ≤ length rows
      → ((k : ℕ) → from ≤ k → k < from + count → passes_at k ≡ true) → (from + count < length rows → passes_at (from + count) ≡ false) → count ≡ count_by (is_in_range schema criteria) rows
  values_run from count is h inside ends =
      let first : from ≡ prefix_len lt_row rows = is ∙ front_is in
      let before : (k : ℕ) → k < from → is_lt (order_at k) ≡ true = λ k p. prefix_len_passes lt_row rows k [] (omega arith) in
      let behind : (k : ℕ) → from ≤ k → k < length rows → is_lt (order_at k) ≡ false =
      λ k p q. behind_all schema keys criteria rows names up (prefix_len lt_row rows) k (omega arith) q (prefix_len_stops lt_row rows [] (omega arith)) in
      run_count (is_in_range schema criteria) rows [] from count h
      (λ k p. same_at k ∙ lt_not_equal (order_at k) (before k p))
      inside
      (λ k p q. later_none (from + count) k p q (behind (from + count) (omega arith) (omega arith)) (ends (omega arith)))

-- Of rows in the order of keys those that come before given values stand in front.
use Rattle.std.proofs.Common.{◌≡◌, ℕ, zero, suc, ◌<◌, ◌≤◌, Bool, true, false, List, [], ◌∷◌, length, get_or, map, take, refl, ap, sym, ◌∙◌, ◌+◌, ◌-◌, arith, add-one}
use Rattle.std.specs.declared.cmp.Ordering.{Ordering}
use Rattle.std.specs.declared.cmp.Ordering.TheVariants.{Less, Equal, Greater}
use Rattle.std.specs.List.{count_by}
use Rattle.std.specs.List.Sorted.{IsSorted}
use Rattle.std.specs.Ordering.{is_lt, ordering_then, ordering_reverse}
use Rattle.std.specs.Cmp.{IsTotalOrder}
use Rattle.std.proofs.lemmas.Bool.{false≢true}
use Rattle.std.proofs.lemmas.List.{take_all}
use Rattle.std.proofs.lemmas.List.Sums.{count_by_more_yes, count_by_more_no}
use Rattle.std.proofs.lemmas.List.Sorted.{ranks_by, sorted_far}
use Rattle.mk_value.specs.Heading.{Attribute}
use Rattle.mk_value.specs.Data.{Datum}
use Rattle.mk_value.specs.Order.{value_cmp, turned}
use Rattle.relations.specs.declared.criteria.Key.{Key}
use Rattle.relations.specs.Criteria.{Interval}
use Rattle.relations.specs.Rows.{value_of}
use Rattle.relations.specs.Searching.{asked_cmp}
use Rattle.relations.specs.Sorting.{row_cmp}
use Rattle.relations.proofs.RowOrder.{row_cmp_total, turned_total}

-- x is one row's value, y that of a later row, and v what is asked for
step : {D : Type 0} (R : D → D → Ordering) → IsTotalOrder R → (x y v : D) (o p q : Ordering) (r s t : Ordering) → R y x ≡ o → R y v ≡ p → R x v ≡ q
    → is_lt (ordering_then o r) ≡ false → is_lt (ordering_then p s) ≡ true → (is_lt r ≡ false → is_lt s ≡ true → is_lt t ≡ true) → is_lt (ordering_then q t) ≡ true
step R total x y v Less p q r s t eo ep eq f g rest = absurd (false≢true (sym f))
step R total x y v Equal Less q r s t eo ep eq f g rest =
    let e : q ≡ Less = sym eq ∙ sym (total.congr y x v eo) ∙ ep in
    ap (λ z. is_lt (ordering_then z t)) e
step R total x y v Equal Equal q r s t eo ep eq f g rest =
    let e : q ≡ Equal = sym eq ∙ sym (total.congr y x v eo) ∙ ep in
    ap (λ z. is_lt (ordering_then z t)) e ∙ rest f g
step R total x y v Equal Greater q r s t eo ep eq f g rest = absurd (false≢true g)
step R total x y v Greater Less q r s t eo ep eq f g rest =
    let back : R x y ≡ Less = total.antisymm x y ∙ ap ordering_reverse eo in
    ap (λ z. is_lt (ordering_then z t)) (sym eq ∙ total.trans x y v back ep)
step R total x y v Greater Equal q r s t eo ep eq f g rest =
    let back : R x y ≡ Less = total.antisymm x y ∙ ap ordering_reverse eo in
    let tied : R v x ≡ Greater = sym (total.congr y v x ep) ∙ eo in
    ap (λ z. is_lt (ordering_then z t)) (sym eq ∙ total.antisymm x v ∙ ap ordering_reverse tied)
step R total x y v Greater Greater q r s t eo ep eq f g rest = absurd (false≢true g)

head_name : (a b : List ℕ) (xs ys : List (List ℕ)) → a ∷ xs ≡ b ∷ ys → a ≡ b
head_name a b xs ys e = cc

tail_names : (a b : List ℕ) (xs ys : List (List ℕ)) → a ∷ xs ≡ b ∷ ys → xs ≡ ys
tail_names a b xs ys e = cc

-- where a later row comes before the values, an earlier one does
earlier : (schema : List Attribute) (keys : List Key) (criteria : List Interval) (x y : List Datum) → map (λ (c : Interval). c.prop) criteria ≡ take (length criteria) (map (λ (k : Key). k.prop) keys)
    → is_lt (row_cmp schema keys y x) ≡ false → is_lt (asked_cmp schema keys criteria y) ≡ true → is_lt (asked_cmp schema keys criteria x) ≡ true
earlier schema [] criteria x y names f g = absurd (false≢true g)
earlier schema (k ∷ keys) [] x y names f g = absurd (false≢true g)
earlier schema (k ∷ keys) (c ∷ criteria) x y names f g =
    let name = head_name c.prop k.prop (map (λ (c : Interval). c.prop) criteria) (take (length criteria) (map (λ (k : Key). k.prop) keys)) names in
    let R : Datum → Datum → Ordering = λ a b. turned k.down (value_cmp a b) in
    let one : R (value_of schema y c.prop) (value_of schema x c.prop) ≡ R (value_of schema y k.prop) (value_of schema x k.prop) = ap (λ n. R (value_of schema y n) (value_of schema x n)) name in
    step R (turned_total k.down) (value_of schema x c.prop) (value_of schema y c.prop) c.low
    (R (value_of schema y k.prop) (value_of schema x k.prop)) (R (value_of schema y c.prop) c.low) (R (value_of schema x c.prop) c.low)
    (row_cmp schema keys y x) (asked_cmp schema keys criteria y) (asked_cmp schema keys criteria x) one refl refl f g
    (earlier schema keys criteria x y (tail_names c.prop k.prop (map (λ (c : Interval). c.prop) criteria) (take (length criteria) (map (λ (k : Key). k.prop) keys)) names))

-- rows in the order of the keys, and values for the first of them
module _ (schema : List Attribute) (keys : List Key) (criteria : List Interval) (rows : List (List Datum)) (names : map (λ (c : Interval). c.prop) criteria ≡ take (length criteria) (map (λ (k : Key). k.prop) keys))
    (up : IsSorted (row_cmp schema keys) rows) where
  pub before_all : (i j : ℕ) → i ≤ j → j < length rows → is_lt (asked_cmp schema keys criteria (get_or rows j [])) ≡ true → is_lt (asked_cmp schema keys criteria (get_or rows i [])) ≡ true
  before_all i j p q h =
      let far = sorted_far (λ (x y : List Datum). is_lt (row_cmp schema keys x y)) (ranks_by (row_cmp_total schema keys) (λ (r : List Datum). r)) rows up i j [] p q in
      earlier schema keys criteria (get_or rows i []) (get_or rows j []) names far h

  pub behind_all : (i j : ℕ) → i ≤ j → j < length rows → is_lt (asked_cmp schema keys criteria (get_or rows i [])) ≡ false → is_lt (asked_cmp schema keys criteria (get_or rows j [])) ≡ false
  behind_all i j p q h = at (is_lt (asked_cmp schema keys criteria (get_or rows j []))) refl
    where
      at : (b : Bool) → is_lt (asked_cmp schema keys criteria (get_or rows j [])) ≡ b → is_lt (asked_cmp schema keys criteria (get_or rows j [])) ≡ false
      at true e = absurd (false≢true (sym h ∙ before_all i j p q e))
      at false e = e

-- a test that the first n elements pass and no other
module _ {X : Type 0} (p : X → Bool) (xs : List X) (d : X) where
  front_count : (n : ℕ) → n ≤ length xs → ((k : ℕ) → k < n → p (get_or xs k d) ≡ true) → count_by p (take n xs) ≡ n
  front_count zero h front = refl
  front_count (suc n) h front =
      let rest = front_count n (omega arith) (λ k q. front k (omega arith)) in
      let more = count_by_more_yes p xs n d (omega arith) (front n (omega arith)) in
      let e : count_by p (take (suc n) xs) ≡ count_by p (take (n + 1) xs) = ap (λ k. count_by p (take k xs)) (sym (add-one n)) in
      omega arith

  behind_count : (n m : ℕ) → n + m ≤ length xs → ((k : ℕ) → n ≤ k → k < length xs → p (get_or xs k d) ≡ false) → count_by p (take (n + m) xs) ≡ count_by p (take n xs)
  behind_count n zero h behind = ap (λ k. count_by p (take k xs)) (omega arith)
  behind_count n (suc m) h behind =
      let rest = behind_count n m (omega arith) behind in
      let less = count_by_more_no p xs (n + m) d (omega arith) (behind (n + m) (omega arith) (omega arith)) in
      let e : count_by p (take (n + suc m) xs) ≡ count_by p (take (n + m + 1) xs) = ap (λ k. count_by p (take k xs)) (omega arith) in
      omega arith

  pub count_front : (n : ℕ) → n ≤ length xs → ((k : ℕ) → k < n → p (get_or xs k d) ≡ true) → ((k : ℕ) → n ≤ k → k < length xs → p (get_or xs k d) ≡ false) → n ≡ count_by p xs
  count_front n h front behind =
      let m = length xs - n in
      let all : count_by p (take (n + m) xs) ≡ count_by p xs = ap (count_by p) (take_all (n + m) xs (omega arith)) in
      let one = front_count n h front in
      let two = behind_count n m (omega arith) behind in
      omega arith

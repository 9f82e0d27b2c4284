-- The distinct rows in order: what stands in them, that they ascend, and how many are less than a row.
use Rattle.std.proofs.Common.{◌≡◌, ℕ, zero, suc, ◌<◌, ◌≤◌, Bool, true, false, not, cond, List, [], ◌∷◌, length, get_or, filter, refl, ap, sym, subst, ◌∙◌, inl, inr, arith}
use Rattle.std.specs.List.{AllByRecursion as Each}
use Rattle.std.specs.declared.cmp.Ordering.{Ordering}
use Rattle.std.specs.declared.cmp.Ordering.TheVariants.{Less, Equal, Greater}
use Rattle.std.specs.Ordering.{is_lt}
use Rattle.std.specs.Cmp.{IsTotalOrder}
use Rattle.std.proofs.lemmas.Bool.{false≢true, cases_Bool}
use Rattle.mk_value.specs.Data.{Datum}
use Rattle.relations.specs.Equality.{same_row}
use Rattle.derived.specs.Operators.{distinct}
use Rattle.relations.specs.WholeOrder.{whole_row_cmp}
use Rattle.relations.specs.OrderLaws.{whole_row_cmp_total, whole_row_ties}
use Rattle.grouping.specs.Index.{keys_of, keys_less}
use Rattle.relations.proofs.Ascending.{in_sorted, in_sorted_back, AreApart, sorted_up, IsIn, each_in, each_from_in, in_at, Ascends, ascends_same}
use Rattle.grouping.proofs.Ascending.{in_filter, in_filter_back}
use Rattle.relations.proofs.Equal.{rows_equal, same_from_equal}

-- the elements of an ascending list that are less than another
module _ {X : Type 0} (cmp : X → X → Ordering) where
  abbrev less_than : X → List X → List X
  less_than x xs = filter (λ y. is_lt (cmp y x)) xs

  -- the elements less than another stand in front
  abbrev StandsInFront : X → X → ℕ → ℕ → Type 0
  StandsInFront x z k n = (is_lt (cmp z x) ≡ true → k < n) × (is_lt (cmp z x) ≡ false → n ≤ k)

  none_less : (x : X) (zs : List X) → Each (λ z. is_lt (cmp z x) ≡ false) zs → less_than x zs ≡ []
  none_less x [] each = refl
  none_less x (z ∷ zs) each = ap (λ b. cond b (z ∷ less_than x zs) (less_than x zs)) each.0 ∙ none_less x zs each.1

  is_less : (o : Ordering) → is_lt o ≡ true → o ≡ Less
  is_less Less e = refl
  is_less Equal e = absurd (false≢true e)
  is_less Greater e = absurd (false≢true e)

  less_front : IsTotalOrder cmp → (x : X) (xs : List X) → Ascends cmp xs → (k : ℕ) (d : X) → k < length xs → StandsInFront x (get_or xs k d) k (length (less_than x xs))
  less_front total x [] up k d p = absurd (omega arith)
  less_front total x (y ∷ ys) up k d p = at (is_lt (cmp y x)) refl k p (λ k p. less_front total x ys up.1 k d p)
    where
      not_below : is_lt (cmp y x) ≡ false → (z : X) → IsIn z ys → is_lt (cmp z x) ≡ false
      not_below none z h = elim (cases_Bool (is_lt (cmp z x))) [
        | inr f ↦ f
        | inl t ↦ absurd (false≢true (sym none ∙ ap is_lt (total.trans y z x (each_in (λ w. cmp y w ≡ Less) ys z up.0 h) (is_less (cmp z x) t))))
      ]

      at : (b : Bool) → is_lt (cmp y x) ≡ b → (k : ℕ) → k < length (y ∷ ys) → ((k : ℕ) → k < length ys → StandsInFront x (get_or ys k d) k (length (less_than x ys)))
          → StandsInFront x (get_or (y ∷ ys) k d) k (length (less_than x (y ∷ ys)))
      at true e zero p rest =
          subst (λ b. StandsInFront x y 0 (length (cond b (y ∷ less_than x ys) (less_than x ys)))) (sym e) (λ _. omega arith, λ f. absurd (false≢true (sym f ∙ e)))
      at true e (suc k) p rest =
          let r = rest k (omega arith) in
          subst (λ b. StandsInFront x (get_or ys k d) (suc k) (length (cond b (y ∷ less_than x ys) (less_than x ys)))) (sym e)
          (λ t. let q = r.0 t in omega arith, λ f. let q = r.1 f in omega arith)
      at false e k p rest =
          let all : Each (λ z. is_lt (cmp z x) ≡ false) (y ∷ ys) = (e, each_from_in (λ z. is_lt (cmp z x) ≡ false) ys (not_below e)) in
          let here = each_in (λ z. is_lt (cmp z x) ≡ false) (y ∷ ys) (get_or (y ∷ ys) k d) all (in_at (y ∷ ys) k d p) in
          let none = ap (λ (zs : List X). length zs) (none_less x (y ∷ ys) all) in
          (λ t. absurd (false≢true (sym here ∙ t)), λ f. omega arith)

-- the distinct rows
pub in_distinct : (rows : List (List Datum)) (z : List Datum) → IsIn z rows → IsIn z (distinct rows)
in_distinct [] z h = h
in_distinct (row ∷ rest) z (inl e) = inl e
in_distinct (row ∷ rest) z (inr h) = elim (cases_Bool (same_row row z)) [
  | inl t ↦ inl (rows_equal row z t)
  | inr f ↦ inr (in_filter (λ other. not (same_row row other)) (distinct rest) z (in_distinct rest z h) (ap not f))
]

pub in_distinct_back : (rows : List (List Datum)) (z : List Datum) → IsIn z (distinct rows) → IsIn z rows
in_distinct_back [] z h = h
in_distinct_back (row ∷ rest) z (inl e) = inl e
in_distinct_back (row ∷ rest) z (inr h) = inr (in_distinct_back rest z (in_filter_back (λ other. not (same_row row other)) (distinct rest) z h).0)

not_tied : (a b : List Datum) → not (same_row a b) ≡ true → whole_row_cmp a b ≡ Equal → ⊥
not_tied a b e f = false≢true (sym (ap not (same_from_equal a b (whole_row_ties a b f))) ∙ e)

each_filtered : (p : List Datum → Bool) (row : List Datum) (rows : List (List Datum)) → AreApart whole_row_cmp rows → AreApart whole_row_cmp (filter p rows)
each_filtered p row [] apart = tt
each_filtered p row (a ∷ rest) apart = at (p a) (each_filtered p row rest apart.1)
  where
    at : (b : Bool) → AreApart whole_row_cmp (filter p rest) → AreApart whole_row_cmp (cond b (a ∷ filter p rest) (filter p rest))
    at true done = (
      each_from_in (λ y. whole_row_cmp a y ≡ Equal → ⊥) (filter p rest) (λ y h. each_in (λ y. whole_row_cmp a y ≡ Equal → ⊥) rest y apart.0 (in_filter_back p rest y h).0),
      done,
    )
    at false done = done

distinct_apart : (rows : List (List Datum)) → AreApart whole_row_cmp (distinct rows)
distinct_apart [] = tt
distinct_apart (row ∷ rest) = (
  each_from_in (λ y. whole_row_cmp row y ≡ Equal → ⊥) (filter (λ other. not (same_row row other)) (distinct rest))
      (λ y h. not_tied row y (in_filter_back (λ other. not (same_row row other)) (distinct rest) y h).1),
  each_filtered (λ other. not (same_row row other)) row (distinct rest) (distinct_apart rest),
)

pub keys_ascend : (rows : List (List Datum)) → Ascends whole_row_cmp (keys_of rows)
keys_ascend rows = sorted_up whole_row_cmp whole_row_cmp_total (distinct rows) (distinct_apart rows)

pub in_keys : (rows : List (List Datum)) (z : List Datum) → IsIn z rows → IsIn z (keys_of rows)
in_keys rows z h = in_sorted whole_row_cmp (distinct rows) z (in_distinct rows z h)

pub in_keys_back : (rows : List (List Datum)) (z : List Datum) → IsIn z (keys_of rows) → IsIn z rows
in_keys_back rows z h = in_distinct_back rows z (in_sorted_back whole_row_cmp (distinct rows) z h)

-- any ascending list of the rows is the keys
pub keys_are : (rows keys : List (List Datum)) → Ascends whole_row_cmp keys → ((z : List Datum) → IsIn z keys → IsIn z rows) → ((z : List Datum) → IsIn z rows → IsIn z keys) → keys ≡ keys_of rows
keys_are rows keys up f g =
    ascends_same whole_row_cmp_total keys (keys_of rows) up (keys_ascend rows) (λ z h. in_keys rows z (f z h)) (λ z h. g z (in_keys_back rows z h))

pub key_less : (rows : List (List Datum)) (row : List Datum) (k : ℕ) (d : List Datum) → k < length (keys_of rows) → is_lt (whole_row_cmp (get_or (keys_of rows) k d) row) ≡ true → k < keys_less rows row
key_less rows row k d p t = (less_front whole_row_cmp whole_row_cmp_total row (keys_of rows) (keys_ascend rows) k d p).0 t

pub key_not_less : (rows : List (List Datum)) (row : List Datum) (k : ℕ) (d : List Datum) → k < length (keys_of rows) → is_lt (whole_row_cmp (get_or (keys_of rows) k d) row) ≡ false → keys_less rows row ≤ k
key_not_less rows row k d p f = (less_front whole_row_cmp whole_row_cmp_total row (keys_of rows) (keys_ascend rows) k d p).1 f

pub less_few : {X : Type 0} (p : X → Bool) (xs : List X) → length (filter p xs) ≤ length xs
less_few p [] = omega arith
less_few p (x ∷ xs) = few (p x) (less_few p xs)
  where
    few : (b : Bool) → length (filter p xs) ≤ length xs → length (cond b (x ∷ filter p xs) (filter p xs)) ≤ length (x ∷ xs)
    few true r = omega arith
    few false r = omega arith

pub keys_less_few : (rows : List (List Datum)) (row : List Datum) → keys_less rows row ≤ length (keys_of rows)
keys_less_few rows row = less_few (λ key. is_lt (whole_row_cmp key row)) (keys_of rows)

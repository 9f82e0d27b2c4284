-- Elements of joined, split and mapped lists, and those that ascend.
use Rattle.std.proofs.Common.{◌≡◌, ◌≢◌, ◌⊎◌, ℕ, zero, suc, ◌+◌, ◌<◌, ◌≤◌, List, [], ◌∷◌, ◌++◌, length, get_or, map, take, drop, All, refl, ap, sym, subst, ◌∙◌, arith, inl, inr}
use Rattle.std.specs.List.{AllPairs}
use Rattle.std.specs.declared.cmp.Ordering.{Ordering}
use Rattle.std.specs.declared.cmp.Ordering.TheVariants.{Less}
use Rattle.std.specs.Cmp.{IsTotalOrder}
use Rattle.std.proofs.lemmas.List.{append-nil, take_all, drop_all, length-take-le, length-drop, get_or-take, get_or-drop}
use Rattle.relations.proofs.Ascending.{IsIn, Ascends, each_in, each_from_in, in_at, place_of, not_less}

module _ {X : Type 0} where
  pub in_left : (xs ys : List X) (z : X) → IsIn z xs → IsIn z (xs ++ ys)
  in_left [] ys z h = absurd h
  in_left (x ∷ xs) ys z (inl e) = inl e
  in_left (x ∷ xs) ys z (inr h) = inr (in_left xs ys z h)

  pub in_right : (xs ys : List X) (z : X) → IsIn z ys → IsIn z (xs ++ ys)
  in_right [] ys z h = h
  in_right (x ∷ xs) ys z h = inr (in_right xs ys z h)

  pub in_append : (xs ys : List X) (z : X) → IsIn z (xs ++ ys) → IsIn z xs ⊎ IsIn z ys
  in_append [] ys z h = inr h
  in_append (x ∷ xs) ys z (inl e) = inl (inl e)
  in_append (x ∷ xs) ys z (inr h) = elim (in_append xs ys z h) [ inl a ↦ inl (inr a) | inr b ↦ inr b ]

  pub in_map : {Y : Type 0} (f : X → Y) (xs : List X) (x : X) → IsIn x xs → IsIn (f x) (map f xs)
  in_map f [] x h = absurd h
  in_map f (y ∷ ys) x (inl e) = inl (ap f e)
  in_map f (y ∷ ys) x (inr h) = inr (in_map f ys x h)

  pub map_in : {Y : Type 0} (f : X → Y) (xs : List X) (y : Y) → IsIn y (map f xs) → (x : X) × (IsIn x xs) × (f x ≡ y)
  map_in f [] y h = absurd h
  map_in f (x ∷ xs) y (inl e) = (x, inl refl, e)
  map_in f (x ∷ xs) y (inr h) = let r = map_in f xs y h in (r.0, inr r.1, r.2)

  pub in_middle : (xs : List X) (z : X) (ys : List X) (x : X) → IsIn x (xs ++ z ∷ ys) → (z ≡ x) ⊎ IsIn x (xs ++ ys)
  in_middle xs z ys x h = elim (in_append xs (z ∷ ys) x h) [
    | inl a ↦ inr (in_left xs ys x a)
    | inr b ↦ elim b [ inl e ↦ inl e | inr g ↦ inr (in_right xs ys x g) ]
  ]

  pub middle_in : (xs : List X) (z : X) (ys : List X) (x : X) → (z ≡ x) ⊎ IsIn x (xs ++ ys) → IsIn x (xs ++ z ∷ ys)
  middle_in xs z ys x (inl e) = in_right xs (z ∷ ys) x (inl e)
  middle_in xs z ys x (inr h) = elim (in_append xs ys x h) [ inl a ↦ in_left xs (z ∷ ys) x a | inr b ↦ in_right xs (z ∷ ys) x (inr b) ]

  pub all_from_in : (P : X → Type 0) (xs : List X) → ((x : X) → IsIn x xs → P x) → All P xs
  all_from_in P xs f = λ k d p. f (get_or xs k d) (in_at xs k d p)

  pub all_in : (P : X → Type 0) (xs : List X) (x : X) → All P xs → IsIn x xs → P x
  all_in P xs x all h = let r = place_of xs x h in subst P (r.2 x) (all r.0 x r.1)

  module _ (cmp : X → X → Ordering) where
    pub ascends_at : (xs : List X) → Ascends cmp xs → (i j : ℕ) (d : X) → i < j → j < length xs → cmp (get_or xs i d) (get_or xs j d) ≡ Less
    ascends_at [] up i j d p q = absurd (omega arith)
    ascends_at (x ∷ xs) up i zero d p q = absurd (omega arith)
    ascends_at (x ∷ xs) up zero (suc j) d p q = each_in (λ y. cmp x y ≡ Less) xs (get_or xs j d) up.0 (in_at xs j d (omega arith))
    ascends_at (x ∷ xs) up (suc i) (suc j) d p q = ascends_at xs up.1 i j d (omega arith) (omega arith)

    pub pairs_from_ascends : (xs : List X) → Ascends cmp xs → AllPairs (λ x y. cmp x y ≡ Less) xs
    pairs_from_ascends xs up i j d p q = ascends_at xs up i j d p q

    pub ascends_map : {Y : Type 0} (two : Y → Y → Ordering) (f : X → Y) (xs : List X) → ((x y : X) → IsIn x xs → IsIn y xs → cmp x y ≡ Less → two (f x) (f y) ≡ Less) → Ascends cmp xs → Ascends two (map f xs)
    ascends_map two f [] same up = tt
    ascends_map two f (x ∷ xs) same up = (
      each_from_in (λ y. two (f x) y ≡ Less) (map f xs) (λ y h.
          let r = map_in f xs y h in
          subst (λ z. two (f x) z ≡ Less) r.2 (same x r.0 (inl refl) (inr r.1) (each_in (λ z. cmp x z ≡ Less) xs r.0 up.0 r.1))),
      ascends_map two f xs (λ x y p q. same x y (inr p) (inr q)) up.1,
    )

    ascends_left : (xs ys : List X) → Ascends cmp (xs ++ ys) → Ascends cmp xs
    ascends_left [] ys up = tt
    ascends_left (x ∷ xs) ys up = (each_from_in (λ y. cmp x y ≡ Less) xs (λ y h. each_in (λ y. cmp x y ≡ Less) (xs ++ ys) y up.0 (in_left xs ys y h)), ascends_left xs ys up.1)

    ascends_across : (xs ys : List X) → Ascends cmp (xs ++ ys) → (x y : X) → IsIn x xs → IsIn y ys → cmp x y ≡ Less
    ascends_across [] ys up x y p q = absurd p
    ascends_across (w ∷ xs) ys up x y (inl e) q = subst (λ z. cmp z y ≡ Less) e (each_in (λ y. cmp w y ≡ Less) (xs ++ ys) y up.0 (in_right xs ys y q))
    ascends_across (w ∷ xs) ys up x y (inr h) q = ascends_across xs ys up.1 x y h q

    ascends_right : (xs ys : List X) → Ascends cmp (xs ++ ys) → Ascends cmp ys
    ascends_right [] ys up = up
    ascends_right (x ∷ xs) ys up = ascends_right xs ys up.1

    ascends_joined : (xs ys : List X) → Ascends cmp xs → Ascends cmp ys → ((x y : X) → IsIn x xs → IsIn y ys → cmp x y ≡ Less) → Ascends cmp (xs ++ ys)
    ascends_joined [] ys one two across = two
    ascends_joined (x ∷ xs) ys one two across = (
      each_from_in (λ y. cmp x y ≡ Less) (xs ++ ys) (λ y h. elim (in_append xs ys y h) [
        | inl a ↦ each_in (λ y. cmp x y ≡ Less) xs y one.0 a
        | inr b ↦ across x y (inl refl) b
      ]),
      ascends_joined xs ys one.1 two (λ u v p q. across u v (inr p) q),
    )

    pub ascends_out : (xs : List X) (z : X) (ys : List X) → Ascends cmp (xs ++ z ∷ ys) → Ascends cmp (xs ++ ys)
    ascends_out xs z ys up =
        ascends_joined xs ys (ascends_left xs (z ∷ ys) up) (ascends_right xs (z ∷ ys) up).1 (λ x y p q. ascends_across xs (z ∷ ys) up x y p (inr q))

    pub ascends_in : (xs : List X) (z : X) (ys : List X) → Ascends cmp (xs ++ ys) → ((x : X) → IsIn x xs → cmp x z ≡ Less) → ((y : X) → IsIn y ys → cmp z y ≡ Less) → Ascends cmp (xs ++ z ∷ ys)
    ascends_in xs z ys up below above =
        ascends_joined xs (z ∷ ys) (ascends_left xs ys up) (each_from_in (λ y. cmp z y ≡ Less) ys above, ascends_right xs ys up)
        (λ x y p q. elim q [ inl e ↦ subst (λ w. cmp x w ≡ Less) e (below x p) | inr h ↦ ascends_across xs ys up x y p h ])

    pub middle_apart : IsTotalOrder cmp → (xs : List X) (z : X) (ys : List X) → Ascends cmp (xs ++ z ∷ ys) → (x : X) → IsIn x (xs ++ ys) → x ≢ z
    middle_apart total xs z ys up x h e = elim (in_append xs ys x h) [
      | inl a ↦ not_less total z (subst (λ w. cmp w z ≡ Less) e (ascends_across xs (z ∷ ys) up x z a (inl refl)))
      | inr b ↦ not_less total z (subst (λ w. cmp z w ≡ Less) e (each_in (λ y. cmp z y ≡ Less) ys x (ascends_right xs (z ∷ ys) up).0 b))
    ]

  -- what a slice of a vector's elements leaves when it is written whole
  pub written : (n : ℕ) (xs ys : List X) → length ys ≡ n → length xs ≡ n → take n (xs ++ drop (length xs) ys) ≡ xs
  written n xs ys e f =
      ap (λ zs. take n (xs ++ zs)) (drop_all (length xs) ys (omega arith)) ∙ ap (take n) (append-nil xs) ∙ take_all n xs (omega arith)

-- what stands before a place, and what from there on
pub in_front : (xs : List ℕ) (n x : ℕ) → n ≤ length xs → IsIn x (take n xs) → (k : ℕ) × (k < n) × (get_or xs k 0 ≡ x)
in_front xs n x le h =
    let r = place_of (take n xs) x h in
    let long = length-take-le n xs le in
    let near : r.0 < n = omega (arith, r.1) in
    (r.0, near, sym (get_or-take n xs r.0 0 near) ∙ r.2 0)

pub in_back : (xs : List ℕ) (n x : ℕ) → n ≤ length xs → IsIn x (drop n xs) → (k : ℕ) × (n ≤ k) × (k < length xs) × (get_or xs k 0 ≡ x)
in_back xs n x le h =
    let r = place_of (drop n xs) x h in
    let long = length-drop n xs in
    let p = r.1 in
    let far : n ≤ n + r.0 = omega arith in
    let near : n + r.0 < length xs = omega arith in
    (n + r.0, far, near, sym (get_or-drop n xs r.0 0) ∙ r.2 0)

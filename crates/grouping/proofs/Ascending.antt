-- What stands in parts of a list, and ascending lists that are made of others.
use Rattle.std.proofs.Common.{◌≡◌, ◌⊎◌, ℕ, zero, suc, ◌<◌, Bool, true, false, cond, List, [], ◌∷◌, ◌++◌, length, get_or, map, filter, refl, ap, sym, subst, ◌∙◌, inl, inr, arith}
use Rattle.std.specs.List.{AllByRecursion as Each, AllPairs}
use Rattle.std.specs.declared.cmp.Ordering.{Ordering}
use Rattle.std.specs.declared.cmp.Ordering.TheVariants.{Less, Greater}
use Rattle.std.specs.Ordering.{ordering_reverse}
use Rattle.relations.proofs.Ascending.{IsIn, each_in, each_from_in, in_at, Ascends}

pub in_left : {X : Type 0} (xs ys : List X) (x : X) → IsIn x xs → IsIn x (xs ++ ys)
in_left [] ys x h = absurd h
in_left (z ∷ zs) ys x (inl e) = inl e
in_left (z ∷ zs) ys x (inr h) = inr (in_left zs ys x h)

pub in_right : {X : Type 0} (xs ys : List X) (x : X) → IsIn x ys → IsIn x (xs ++ ys)
in_right [] ys x h = h
in_right (z ∷ zs) ys x h = inr (in_right zs ys x h)

pub in_either : {X : Type 0} (xs ys : List X) (x : X) → IsIn x (xs ++ ys) → IsIn x xs ⊎ IsIn x ys
in_either [] ys x h = inr h
in_either (z ∷ zs) ys x (inl e) = inl (inl e)
in_either (z ∷ zs) ys x (inr h) = elim (in_either zs ys x h) [ inl g ↦ inl (inr g) | inr g ↦ inr g ]

pub in_map : {X Y : Type 0} (f : X → Y) (xs : List X) (x : X) → IsIn x xs → IsIn (f x) (map f xs)
in_map f [] x h = absurd h
in_map f (y ∷ ys) x (inl e) = inl (ap f e)
in_map f (y ∷ ys) x (inr h) = inr (in_map f ys x h)

pub in_map_back : {X Y : Type 0} (f : X → Y) (xs : List X) (y : Y) → IsIn y (map f xs) → (x : X) × IsIn x xs × (f x ≡ y)
in_map_back f [] y h = absurd h
in_map_back f (x ∷ xs) y (inl e) = (x, inl refl, e)
in_map_back f (x ∷ xs) y (inr h) = let r = in_map_back f xs y h in (r.0, inr r.1, r.2)

in_rest : {X : Type 0} (b : Bool) (x y : X) (ys : List X) → IsIn x ys → IsIn x (cond b (y ∷ ys) ys)
in_rest true x y ys h = inr h
in_rest false x y ys h = h

pub in_filter : {X : Type 0} (p : X → Bool) (xs : List X) (x : X) → IsIn x xs → p x ≡ true → IsIn x (filter p xs)
in_filter p [] x h pass = absurd h
in_filter p (y ∷ ys) x (inl e) pass =
    subst (λ b. IsIn x (cond b (y ∷ filter p ys) (filter p ys))) (sym (ap p e ∙ pass)) (inl e)
in_filter p (y ∷ ys) x (inr h) pass = in_rest (p y) x y (filter p ys) (in_filter p ys x h pass)

filter_head : {X : Type 0} (p : X → Bool) (x y : X) (ys : List X) (b : Bool) → p y ≡ b → IsIn x (cond b (y ∷ ys) ys) → ((y ≡ x) × (p x ≡ true)) ⊎ IsIn x ys
filter_head p x y ys true e (inl i) = inl (i, sym (ap p i) ∙ e)
filter_head p x y ys true e (inr h) = inr h
filter_head p x y ys false e h = inr h

pub in_filter_back : {X : Type 0} (p : X → Bool) (xs : List X) (x : X) → IsIn x (filter p xs) → IsIn x xs × (p x ≡ true)
in_filter_back p [] x h = absurd h
in_filter_back p (y ∷ ys) x h =
    elim (filter_head p x y (filter p ys) (p y) refl h) [ inl g ↦ (inl g.0, g.1) | inr g ↦ (let r = in_filter_back p ys x g in (inr r.0, r.1)) ]

pub reverse_greater : (o : Ordering) → o ≡ Greater → ordering_reverse o ≡ Less
reverse_greater o e = ap ordering_reverse e

pub ascends_at : {X : Type 0} (cmp : X → X → Ordering) (xs : List X) → Ascends cmp xs → (i j : ℕ) (d : X) → i < j → j < length xs → cmp (get_or xs i d) (get_or xs j d) ≡ Less
ascends_at cmp [] up i j d p q = absurd (omega arith)
ascends_at cmp (x ∷ xs) up i zero d p q = absurd (omega arith)
ascends_at cmp (x ∷ xs) up zero (suc j) d p q = each_in (λ y. cmp x y ≡ Less) xs (get_or xs j d) up.0 (in_at xs j d (omega arith))
ascends_at cmp (x ∷ xs) up (suc i) (suc j) d p q = ascends_at cmp xs up.1 i j d (omega arith) (omega arith)

pub pairs_from_ascends : {X : Type 0} (cmp : X → X → Ordering) (xs : List X) → Ascends cmp xs → AllPairs (λ x y. cmp x y ≡ Less) xs
pairs_from_ascends cmp xs up = λ i j d p q. ascends_at cmp xs up i j d p q

pub ascends_push : {X : Type 0} (cmp : X → X → Ordering) (xs : List X) (y : X) → Ascends cmp xs → Each (λ x. cmp x y ≡ Less) xs → Ascends cmp (xs ++ y ∷ [])
ascends_push cmp [] y up below = (tt, tt)
ascends_push cmp (x ∷ xs) y up below = (
  each_from_in (λ z. cmp x z ≡ Less) (xs ++ y ∷ []) (λ z h. elim (in_either xs (y ∷ []) z h) [
    | inl g ↦ each_in (λ w. cmp x w ≡ Less) xs z up.0 g
    | inr g ↦ elim g [ inl e ↦ subst (λ w. cmp x w ≡ Less) e below.0 | inr none ↦ absurd none ]
  ]),
  ascends_push cmp xs y up.1 below.1,
)

pub ascends_cond : {X : Type 0} (cmp : X → X → Ordering) (b : Bool) (x : X) (xs : List X) → Each (λ y. cmp x y ≡ Less) xs → Ascends cmp xs → Ascends cmp (cond b (x ∷ xs) xs)
ascends_cond cmp true x xs below up = (below, up)
ascends_cond cmp false x xs below up = up

pub ascends_filter : {X : Type 0} (cmp : X → X → Ordering) (p : X → Bool) (xs : List X) → Ascends cmp xs → Ascends cmp (filter p xs)
ascends_filter cmp p [] up = tt
ascends_filter cmp p (x ∷ xs) up =
    ascends_cond cmp (p x) x (filter p xs)
    (each_from_in (λ y. cmp x y ≡ Less) (filter p xs) (λ y h. each_in (λ z. cmp x z ≡ Less) xs y up.0 (in_filter_back p xs y h).0))
    (ascends_filter cmp p xs up.1)

-- of a map: along another order
pub ascends_map : {X Y : Type 0} (cmp : X → X → Ordering) (other : Y → Y → Ordering) (f : X → Y) (xs : List X) → ((x y : X) → IsIn x xs → IsIn y xs → cmp x y ≡ Less → other (f x) (f y) ≡ Less)
    → Ascends cmp xs → Ascends other (map f xs)
ascends_map cmp other f [] along up = tt
ascends_map cmp other f (x ∷ xs) along up = (
  each_from_in (λ y. other (f x) y ≡ Less) (map f xs) (λ y h. let r = in_map_back f xs y h in
      subst (λ z. other (f x) z ≡ Less) r.2 (along x r.0 (inl refl) (inr r.1) (each_in (λ z. cmp x z ≡ Less) xs r.0 up.0 r.1))),
  ascends_map cmp other f xs (λ y z g h. along y z (inr g) (inr h)) up.1,
)

-- along another order of the same elements
pub ascends_weaker : {X : Type 0} (cmp other : X → X → Ordering) (xs : List X) → ((x y : X) → IsIn x xs → IsIn y xs → cmp x y ≡ Less → other x y ≡ Less) → Ascends cmp xs → Ascends other xs
ascends_weaker cmp other [] along up = tt
ascends_weaker cmp other (x ∷ xs) along up = (
  each_from_in (λ y. other x y ≡ Less) xs (λ y h. along x y (inl refl) (inr h) (each_in (λ z. cmp x z ≡ Less) xs y up.0 h)),
  ascends_weaker cmp other xs (λ y z g h. along y z (inr g) (inr h)) up.1,
)

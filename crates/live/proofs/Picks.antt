-- The positions of the rows that pass a test, in an order: what one row that goes or comes does to them.
use Rattle.std.proofs.Common.{◌≡◌, ◌≢◌, ◌⊎◌, ℕ, ◌+◌, ◌-◌, ◌<◌, Bool, true, false, List, [], ◌∷◌, ◌++◌, length, get_or, map, refl, ap, sym, subst, ◌∙◌, arith, inl, inr}
use Rattle.std.specs.List.{remove}
use Rattle.std.specs.declared.cmp.Ordering.{Ordering}
use Rattle.std.specs.declared.cmp.Ordering.TheVariants.{Less}
use Rattle.std.specs.Ordering.{nat_cmp, ordering_then}
use Rattle.std.specs.Cmp.{IsTotalOrder, nat_cmp_total, then_total, on_total}
use Rattle.std.proofs.lemmas.Bool.{cases_lt, cases_eq}
use Rattle.std.proofs.lemmas.Bool.Decides.{nat_tests}
use Rattle.std.proofs.lemmas.List.Edits.{length-remove, get_or-remove_below, get_or-remove_above}
use Rattle.relations.specs.Positions.{place_cmp}
use Rattle.live.specs.Placing.{closed, opened}
use Rattle.relations.proofs.Ascending.{IsIn, Ascends, each_in, each_from_in, ascends_same, not_less}
use Rattle.live.proofs.Members.{in_left, in_right, in_append}

-- positions moved down and up
pub closed_opened : (p k : ℕ) → closed p (opened p k) ≡ k
closed_opened p k = grind (arith, nat_tests)

pub opened_closed : (p k : ℕ) → k ≢ p → opened p (closed p k) ≡ k
opened_closed p k h = grind (arith, nat_tests)

pub opened_apart : (p k : ℕ) → opened p k ≢ p
opened_apart p k = grind (arith, nat_tests)

pub closed_below : (p k : ℕ) → k < p → closed p k ≡ k
closed_below p k h = grind (arith, nat_tests)

pub closed_above : (p k : ℕ) → p < k → closed p k ≡ k - 1
closed_above p k h = grind (arith, nat_tests)

pub closed_cmp : (p j k : ℕ) → j ≢ p → k ≢ p → nat_cmp (closed p j) (closed p k) ≡ nat_cmp j k
closed_cmp p j k a b = grind (arith, nat_tests)

-- mapped, joined and split lists
module _ {X : Type 0} where
  pub in_map : {Y : Type 0} (f : X → Y) (xs : List X) (x : X) → IsIn x xs → IsIn (f x) (map f xs)
  in_map f [] x h = absurd h
  in_map f (y ∷ ys) x (inl e) = inl (ap f e)
  in_map f (y ∷ ys) x (inr h) = inr (in_map f ys x h)

  pub map_in : {Y : Type 0} (f : X → Y) (xs : List X) (y : Y) → IsIn y (map f xs) → (x : X) × (IsIn x xs) × (f x ≡ y)
  map_in f [] y h = absurd h
  map_in f (x ∷ xs) y (inl e) = (x, inl refl, e)
  map_in f (x ∷ xs) y (inr h) = let r = map_in f xs y h in (r.0, inr r.1, r.2)

  pub in_middle : (xs : List X) (z : X) (ys : List X) (x : X) → IsIn x (xs ++ z ∷ ys) → (z ≡ x) ⊎ IsIn x (xs ++ ys)
  in_middle xs z ys x h = elim (in_append xs (z ∷ ys) x h) [
    | inl a ↦ inr (in_left xs ys x a)
    | inr b ↦ elim b [ inl e ↦ inl e | inr g ↦ inr (in_right xs ys x g) ]
  ]

  pub middle_in : (xs : List X) (z : X) (ys : List X) (x : X) → (z ≡ x) ⊎ IsIn x (xs ++ ys) → IsIn x (xs ++ z ∷ ys)
  middle_in xs z ys x (inl e) = in_right xs (z ∷ ys) x (inl e)
  middle_in xs z ys x (inr h) = elim (in_append xs ys x h) [ inl a ↦ in_left xs (z ∷ ys) x a | inr b ↦ in_right xs (z ∷ ys) x (inr b) ]

  module _ (cmp : X → X → Ordering) where
    pub ascends_map : {Y : Type 0} (two : Y → Y → Ordering) (f : X → Y) (xs : List X) → ((x y : X) → IsIn x xs → IsIn y xs → two (f x) (f y) ≡ cmp x y) → Ascends cmp xs → Ascends two (map f xs)
    ascends_map two f [] same up = tt
    ascends_map two f (x ∷ xs) same up = (
      each_from_in (λ y. two (f x) y ≡ Less) (map f xs) (λ y h.
          let r = map_in f xs y h in
          subst (λ z. two (f x) z ≡ Less) r.2 (same x r.0 (inl refl) (inr r.1) ∙ each_in (λ z. cmp x z ≡ Less) xs r.0 up.0 r.1)),
      ascends_map two f xs (λ x y p q. same x y (inr p) (inr q)) up.1,
    )

    pub ascends_left : (xs ys : List X) → Ascends cmp (xs ++ ys) → Ascends cmp xs
    ascends_left [] ys up = tt
    ascends_left (x ∷ xs) ys up = (each_from_in (λ y. cmp x y ≡ Less) xs (λ y h. each_in (λ y. cmp x y ≡ Less) (xs ++ ys) y up.0 (in_left xs ys y h)), ascends_left xs ys up.1)

    pub ascends_across : (xs ys : List X) → Ascends cmp (xs ++ ys) → (x y : X) → IsIn x xs → IsIn y ys → cmp x y ≡ Less
    ascends_across [] ys up x y p q = absurd p
    ascends_across (w ∷ xs) ys up x y (inl e) q = subst (λ z. cmp z y ≡ Less) e (each_in (λ y. cmp w y ≡ Less) (xs ++ ys) y up.0 (in_right xs ys y q))
    ascends_across (w ∷ xs) ys up x y (inr h) q = ascends_across xs ys up.1 x y h q

    pub ascends_right : (xs ys : List X) → Ascends cmp (xs ++ ys) → Ascends cmp ys
    ascends_right [] ys up = up
    ascends_right (x ∷ xs) ys up = ascends_right xs ys up.1

    pub ascends_joined : (xs ys : List X) → Ascends cmp xs → Ascends cmp ys → ((x y : X) → IsIn x xs → IsIn y ys → cmp x y ≡ Less) → Ascends cmp (xs ++ ys)
    ascends_joined [] ys one two across = two
    ascends_joined (x ∷ xs) ys one two across = (
      each_from_in (λ y. cmp x y ≡ Less) (xs ++ ys) (λ y h. elim (in_append xs ys y h) [
        | inl a ↦ each_in (λ y. cmp x y ≡ Less) xs y one.0 a
        | inr b ↦ across x y (inl refl) b
      ]),
      ascends_joined xs ys one.1 two (λ u v p q. across u v (inr p) q),
    )

    pub ascends_out : (xs : List X) (z : X) (ys : List X) → Ascends cmp (xs ++ z ∷ ys) → Ascends cmp (xs ++ ys)
    ascends_out xs z ys up =
        ascends_joined xs ys (ascends_left xs (z ∷ ys) up) (ascends_right xs (z ∷ ys) up).1 (λ x y p q. ascends_across xs (z ∷ ys) up x y p (inr q))

    pub ascends_in : (xs : List X) (z : X) (ys : List X) → Ascends cmp (xs ++ ys) → ((x : X) → IsIn x xs → cmp x z ≡ Less) → ((y : X) → IsIn y ys → cmp z y ≡ Less) → Ascends cmp (xs ++ z ∷ ys)
    ascends_in xs z ys up below above =
        ascends_joined xs (z ∷ ys) (ascends_left xs ys up) (each_from_in (λ y. cmp z y ≡ Less) ys above, ascends_right xs ys up)
        (λ x y p q. elim q [ inl e ↦ subst (λ w. cmp x w ≡ Less) e (below x p) | inr h ↦ ascends_across xs ys up x y p h ])

    pub middle_apart : IsTotalOrder cmp → (xs : List X) (z : X) (ys : List X) → Ascends cmp (xs ++ z ∷ ys) → (x : X) → IsIn x (xs ++ ys) → x ≢ z
    middle_apart total xs z ys up x h e = elim (in_append xs ys x h) [
      | inl a ↦ not_less total z (subst (λ w. cmp w z ≡ Less) e (ascends_across xs (z ∷ ys) up x z a (inl refl)))
      | inr b ↦ not_less total z (subst (λ w. cmp z w ≡ Less) e (each_in (λ y. cmp z y ≡ Less) ys x (ascends_right xs (z ∷ ys) up).0 b))
    ]

-- the rows without one, by the places of all
module _ {X : Type 0} (d : X) (rows : List X) (p : ℕ) (within : p < length rows) where
  pub row_closed : (k : ℕ) → k ≢ p → k < length rows → get_or (remove rows p) (closed p k) d ≡ get_or rows k d
  row_closed k ne q = elim (cases_lt k p) [
    | inl below ↦ ap (λ j. get_or (remove rows p) j d) (closed_below p k below) ∙ get_or-remove_below rows p d k below within
    | inr above ↦
        let far : p < k = omega arith in
        ap (λ j. get_or (remove rows p) j d) (closed_above p k far) ∙ get_or-remove_above rows p d (k - 1) (omega arith) within ∙ ap (λ j. get_or rows j d) (let e : k - 1 + 1 ≡ k = omega arith in e)
  ]

  closed_in : (k : ℕ) → k ≢ p → k < length rows → closed p k < length (remove rows p)
  closed_in k ne q = let e = length-remove rows p within in grind (arith, nat_tests)

  opened_in : (k : ℕ) → k < length (remove rows p) → opened p k < length rows
  opened_in k q = let e = length-remove rows p within in grind (arith, nat_tests)

  row_opened : (k : ℕ) → k < length (remove rows p) → get_or rows (opened p k) d ≡ get_or (remove rows p) k d
  row_opened k q = sym (row_closed (opened p k) (opened_apart p k) (opened_in k q)) ∙ ap (λ j. get_or (remove rows p) j d) (closed_opened p k)

-- the positions of the rows that pass, in the order
pub record ArePicked {X : Type 0} (test : X → Bool) (cmp : X → X → Ordering) (d : X) (rows : List X) (ps : List ℕ) : Type 0 where
  pub ascends : Ascends (place_cmp cmp d rows) ps
  pub inside : (i : ℕ) → IsIn i ps → (i < length rows) × (test (get_or rows i d) ≡ true)
  pub whole : (i : ℕ) → i < length rows → test (get_or rows i d) ≡ true → IsIn i ps

-- the same of all rows but that at p
pub record AreOthers {X : Type 0} (test : X → Bool) (cmp : X → X → Ordering) (d : X) (rows : List X) (p : ℕ) (ps : List ℕ) : Type 0 where
  pub ascends : Ascends (place_cmp cmp d rows) ps
  pub inside : (i : ℕ) → IsIn i ps → (i < length rows) × (test (get_or rows i d) ≡ true) × (i ≢ p)
  pub whole : (i : ℕ) → i < length rows → test (get_or rows i d) ≡ true → i ≢ p → IsIn i ps

pub place_total : {X : Type 0} (cmp : X → X → Ordering) → IsTotalOrder cmp → (d : X) (rows : List X) → IsTotalOrder (place_cmp cmp d rows)
place_total cmp total d rows = then_total (on_total (λ i. get_or rows i d) total) nat_cmp_total

module _ {X : Type 0} (test : X → Bool) (cmp : X → X → Ordering) (total : IsTotalOrder cmp) (d : X) where
  pub picked_same : (rows : List X) (ps qs : List ℕ) → ArePicked test cmp d rows ps → ArePicked test cmp d rows qs → ps ≡ qs
  picked_same rows ps qs h k =
      ascends_same (place_total cmp total d rows) ps qs h.ascends k.ascends
      (λ i g. let r = h.inside i g in k.whole i r.0 r.1) (λ i g. let r = k.inside i g in h.whole i r.0 r.1)

  pub others_from_middle : (rows : List X) (p : ℕ) (xs ys : List ℕ) → ArePicked test cmp d rows (xs ++ p ∷ ys) → AreOthers test cmp d rows p (xs ++ ys)
  others_from_middle rows p xs ys h = record {
    ascends = ascends_out (place_cmp cmp d rows) xs p ys h.ascends;
    inside = λ i g. let r = h.inside i (middle_in xs p ys i (inr g)) in (r.0, r.1, middle_apart (place_cmp cmp d rows) (place_total cmp total d rows) xs p ys h.ascends i g);
    whole = λ i q t ne. elim (in_middle xs p ys i (h.whole i q t)) [ inl e ↦ absurd (ne (sym e)) | inr g ↦ g ];
  }

  pub others_from_absent : (rows : List X) (p : ℕ) (ps : List ℕ) → ArePicked test cmp d rows ps → (IsIn p ps → ⊥) → AreOthers test cmp d rows p ps
  others_from_absent rows p ps h away = record {
    ascends = h.ascends;
    inside = λ i g. let r = h.inside i g in (r.0, r.1, λ e. away (subst (λ j. IsIn j ps) e g));
    whole = λ i q t ne. h.whole i q t;
  }

  pub picked_from_others : (rows : List X) (p : ℕ) (ps : List ℕ) → AreOthers test cmp d rows p ps → test (get_or rows p d) ≡ false → ArePicked test cmp d rows ps
  picked_from_others rows p ps h fails = record {
    ascends = h.ascends;
    inside = λ i g. let r = h.inside i g in (r.0, r.1);
    whole = λ i q t. elim (cases_eq i p) [ inl e ↦ cc (fails, ap (λ j. test (get_or rows j d)) e) | inr ne ↦ h.whole i q t ne ];
  }

  pub picked_from_middle : (rows : List X) (p : ℕ) (xs ys : List ℕ) → p < length rows → AreOthers test cmp d rows p (xs ++ ys) → test (get_or rows p d) ≡ true
      → ((x : ℕ) → IsIn x xs → place_cmp cmp d rows x p ≡ Less) → ((y : ℕ) → IsIn y ys → place_cmp cmp d rows p y ≡ Less) → ArePicked test cmp d rows (xs ++ p ∷ ys)
  picked_from_middle rows p xs ys q h passes below above = record {
    ascends = ascends_in (place_cmp cmp d rows) xs p ys h.ascends below above;
    inside = λ i g. elim (in_middle xs p ys i g) [
      | inl e ↦ subst (λ j. (j < length rows) × (test (get_or rows j d) ≡ true)) e (q, passes)
      | inr k ↦ let r = h.inside i k in (r.0, r.1)
    ];
    whole = λ i q t. elim (cases_eq i p) [ inl e ↦ middle_in xs p ys i (inl (sym e)) | inr ne ↦ middle_in xs p ys i (inr (h.whole i q t ne)) ];
  }

  module _ (rows : List X) (p : ℕ) (within : p < length rows) where
    cmp_closed : (j k : ℕ) → j ≢ p → k ≢ p → j < length rows → k < length rows → place_cmp cmp d (remove rows p) (closed p j) (closed p k) ≡ place_cmp cmp d rows j k
    cmp_closed j k a b q r =
        ap (λ x. ordering_then (cmp x (get_or (remove rows p) (closed p k) d)) (nat_cmp (closed p j) (closed p k))) (row_closed d rows p within j a q)
        ∙ ap (λ y. ordering_then (cmp (get_or rows j d) y) (nat_cmp (closed p j) (closed p k))) (row_closed d rows p within k b r)
        ∙ ap (ordering_then (cmp (get_or rows j d) (get_or rows k d))) (closed_cmp p j k a b)

    cmp_opened : (j k : ℕ) → j < length (remove rows p) → k < length (remove rows p) → place_cmp cmp d rows (opened p j) (opened p k) ≡ place_cmp cmp d (remove rows p) j k
    cmp_opened j k q r =
        sym (cmp_closed (opened p j) (opened p k) (opened_apart p j) (opened_apart p k) (opened_in d rows p within j q) (opened_in d rows p within k r))
        ∙ ap (λ i. place_cmp cmp d (remove rows p) i (closed p (opened p k))) (closed_opened p j) ∙ ap (place_cmp cmp d (remove rows p) j) (closed_opened p k)

    pub others_closed : (ps : List ℕ) → AreOthers test cmp d rows p ps → ArePicked test cmp d (remove rows p) (map (closed p) ps)
    others_closed ps h = record {
      ascends = ascends_map (place_cmp cmp d rows) (place_cmp cmp d (remove rows p)) (closed p) ps
          (λ j k a b. let x = h.inside j a in let y = h.inside k b in cmp_closed j k x.2 y.2 x.0 y.0) h.ascends;
      inside = λ i g.
          let r = map_in (closed p) ps i g in
          let x = h.inside r.0 r.1 in
          subst (λ j. (j < length (remove rows p)) × (test (get_or (remove rows p) j d) ≡ true)) r.2 (closed_in d rows p within r.0 x.2 x.0, ap test (row_closed d rows p within r.0 x.2 x.0) ∙ x.1);
      whole = λ i q t.
          subst (λ j. IsIn j (map (closed p) ps)) (closed_opened p i)
          (in_map (closed p) ps (opened p i) (h.whole (opened p i) (opened_in d rows p within i q) (ap test (row_opened d rows p within i q) ∙ t) (opened_apart p i)));
    }

    pub picked_opened : (ps : List ℕ) → ArePicked test cmp d (remove rows p) ps → AreOthers test cmp d rows p (map (opened p) ps)
    picked_opened ps h = record {
      ascends = ascends_map (place_cmp cmp d (remove rows p)) (place_cmp cmp d rows) (opened p) ps
          (λ j k a b. let x = h.inside j a in let y = h.inside k b in cmp_opened j k x.0 y.0) h.ascends;
      inside = λ i g.
          let r = map_in (opened p) ps i g in
          let x = h.inside r.0 r.1 in
          subst (λ j. (j < length rows) × (test (get_or rows j d) ≡ true) × (j ≢ p)) r.2 (opened_in d rows p within r.0 x.0, ap test (row_opened d rows p within r.0 x.0) ∙ x.1, opened_apart p r.0);
      whole = λ i q t ne.
          subst (λ j. IsIn j (map (opened p) ps)) (opened_closed p i ne)
          (in_map (opened p) ps (closed p i) (h.whole (closed p i) (closed_in d rows p within i ne q) (ap test (row_closed d rows p within i ne q) ∙ t)));
    }

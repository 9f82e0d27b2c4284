-- Elements of filtered lists, and their order.
use Rattle.std.proofs.Common.{◌≡◌, ◌⊎◌, Bool, true, false, if◌then◌else◌, List, [], ◌∷◌, refl, ap, sym, ◌∙◌, inl, inr}
use Rattle.std.specs.List.{filter}
use Rattle.std.specs.declared.cmp.Ordering.{Ordering}
use Rattle.std.specs.declared.cmp.Ordering.TheVariants.{Less}
use Rattle.relations.proofs.Ascending.{IsIn, Ascends, each_from_in, each_in}

module _ {X : Type 0} where
  in_kept : (b : Bool) (x z : X) (xs : List X) → IsIn z (if b then x ∷ xs else xs) → (b ≡ true × (x ≡ z)) ⊎ IsIn z xs
  in_kept true x z xs (inl e) = inl (refl, e)
  in_kept true x z xs (inr h) = inr h
  in_kept false x z xs h = inr h

  kept_in : (b : Bool) (x z : X) (xs : List X) → (b ≡ true × (x ≡ z)) ⊎ IsIn z xs → IsIn z (if b then x ∷ xs else xs)
  kept_in true x z xs (inl e) = inl e.1
  kept_in true x z xs (inr h) = inr h
  kept_in false x z xs (inl e) = cc
  kept_in false x z xs (inr h) = h

  pub in_filter : (p : X → Bool) (xs : List X) (z : X) → IsIn z (filter p xs) → IsIn z xs × (p z ≡ true)
  in_filter p [] z h = absurd h
  in_filter p (x ∷ xs) z h = elim (in_kept (p x) x z (filter p xs) h) [
    | inl e ↦ (inl e.1, ap p (sym e.1) ∙ e.0)
    | inr g ↦ let r = in_filter p xs z g in (inr r.0, r.1)
  ]

  pub filter_in : (p : X → Bool) (xs : List X) (z : X) → IsIn z xs → p z ≡ true → IsIn z (filter p xs)
  filter_in p [] z h e = absurd h
  filter_in p (x ∷ xs) z (inl g) e = kept_in (p x) x z (filter p xs) (inl (ap p g ∙ e, g))
  filter_in p (x ∷ xs) z (inr g) e = kept_in (p x) x z (filter p xs) (inr (filter_in p xs z g e))

  pub ascends_filter : (cmp : X → X → Ordering) (p : X → Bool) (xs : List X) → Ascends cmp xs → Ascends cmp (filter p xs)
  ascends_filter cmp p [] up = tt
  ascends_filter cmp p (x ∷ xs) up = at (p x) (ascends_filter cmp p xs up.1)
    where
      at : (b : Bool) → Ascends cmp (filter p xs) → Ascends cmp (if b then x ∷ filter p xs else filter p xs)
      at true rest = (each_from_in (λ y. cmp x y ≡ Less) (filter p xs) (λ y h. each_in (λ y. cmp x y ≡ Less) xs y up.0 (in_filter p xs y h).0), rest)
      at false rest = rest

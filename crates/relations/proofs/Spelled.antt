-- Criteria with literals: what they are due, item by item; and what it means that a literal fits.
use Rattle.std.proofs.Common.{◌≡◌, ℕ, ◌+◌, ◌<◌, Bool, true, false, not, ◌&&◌, List, [], ◌∷◌, length, get_or, map, drop, Some, None, refl, ap, sym, ◌∙◌}
use Rattle.mk_value.specs.Heading.{Domain, Attribute}
use Rattle.mk_value.specs.Conversions.{becomes}
use Rattle.relations.specs.declared.error.DerivedError.TheVariants.{WrongKind}
use Rattle.relations.specs.Criteria.{Interval, valued}
use Rattle.relations.specs.Fitting.{fits}
use Rattle.relations.specs.Refusals.{absent, a_view, unfit, literals_due, first_of}
use Rattle.relations.specs.Rows.{has, domain_of}
use Rattle.relations.proofs.Asking.{first_none}
use Rattle.relations.proofs.Faults.{fault_stop, fault_pass}
use Rattle.relations.proofs.Names.{item_present}

module _ {A : Type 0} (bounds : A → Interval) (prop : A → List ℕ) (same : (x : A) → (bounds x).prop ≡ prop x) (schema : List Attribute) where
  -- whether both literals fit a domain
  abbrev both : Domain → A → Bool
  both e x = fits e (becomes (bounds x).low e) && fits e (becomes (bounds x).high e)

  abbrev test : Interval → Bool
  test b = not (fits (domain_of schema b.prop) b.low && fits (domain_of schema b.prop) b.high)

  names_same : (xs : List A) → map (λ (b : Interval). b.prop) (map (valued schema) (map bounds xs)) ≡ map prop xs
  names_same [] = refl
  names_same (x ∷ xs) = ap (λ n. n ∷ map (λ (b : Interval). b.prop) (map (valued schema) (map bounds xs))) (same x) ∙ ap (λ ns. prop x ∷ ns) (names_same xs)

  fused : (xs : List A) → map (valued schema) (map bounds xs) ≡ map (λ x. valued schema (bounds x)) xs
  fused [] = refl
  fused (x ∷ xs) = ap (λ (bs : List Interval). valued schema (bounds x) ∷ bs) (fused xs)

  pub due_is : (xs : List A) → literals_due (map bounds xs) schema ≡ first_of (absent schema (map prop xs) ∷ a_view schema (map prop xs) ∷ unfit schema (map (valued schema) (map bounds xs)) ∷ [])
  due_is xs = ap (λ ns. first_of (absent schema ns ∷ a_view schema ns ∷ unfit schema (map (valued schema) (map bounds xs)) ∷ [])) (names_same xs)

  -- one item, and whether its literals fit the domain of its property
  module _ (xs : List A) (i : ℕ) (x : A) (p : i < length xs) (read : x ≡ get_or xs i x) (e : Domain) (name : List ℕ) (kind : e ≡ domain_of schema name) (named : name ≡ prop x) where
    tested : test (valued schema (bounds x)) ≡ not (both e x)
    tested = ap (λ n. not (both (domain_of schema n) x)) (same x ∙ sym named) ∙ ap (λ (d : Domain). not (both d x)) (sym kind)

    pub refused_stop : both e x ≡ false → Some (WrongKind name) ≡ unfit schema (map (valued schema) (map bounds (drop i xs)))
    refused_stop h = sym (
        ap (λ (bs : List Interval). unfit schema bs) (fused (drop i xs))
        ∙ fault_stop (λ (b : Interval). WrongKind b.prop) test (λ x. valued schema (bounds x)) xs i x p read (tested ∙ ap not h)
        ∙ ap (λ n. Some (WrongKind n)) (same x ∙ sym named))

    pub refused_pass : both e x ≡ true → unfit schema (map (valued schema) (map bounds (drop (i + 1) xs))) ≡ unfit schema (map (valued schema) (map bounds (drop i xs)))
    refused_pass h =
        ap (λ (bs : List Interval). unfit schema bs) (fused (drop (i + 1) xs))
        ∙ fault_pass (λ (b : Interval). WrongKind b.prop) test (λ x. valued schema (bounds x)) xs i x p read (tested ∙ ap not h)
        ∙ ap (λ (bs : List Interval). unfit schema bs) (sym (fused (drop i xs)))

  pub literal_present : (xs : List A) (i : ℕ) (x : A) → literals_due (map bounds xs) schema ≡ None → i < length xs → x ≡ get_or xs i x → has schema (prop x) ≡ true
  literal_present xs i x due p read = item_present prop schema xs i x (first_none (absent schema (map prop xs)) _ (sym (due_is xs) ∙ due)) p read

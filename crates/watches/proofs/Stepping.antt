-- One after another of the watches of views becomes another.
use Rattle.std.proofs.Common.{◌≡◌, ℕ, ◌+◌, ◌<◌, ◌≤◌, List, length, get_or, set, refl, ap, sym, subst, ◌∙◌, arith, inl, inr}
use Rattle.std.proofs.lemmas.Bool.{cases_lt}
use Rattle.std.proofs.lemmas.List.{get_or_read, get_or-set_other, get_or-set_same, length-set}
use Rattle.watches.specs.Groups.{AreEach}
use Rattle.watches.specs.Keeping.{Kept}

-- the first so many have become others, and the rest is as it was
pub record AreDone (R : Kept → Kept → Type 0) (old now : List Kept) (i : ℕ) : Type 0 where
  pub long : length now ≡ length old
  pub done : (k : ℕ) (d : Kept) → k < i → k < length old → R (get_or old k d) (get_or now k d)
  pub rest : (k : ℕ) (d : Kept) → i ≤ k → get_or now k d ≡ get_or old k d

module _ (R : Kept → Kept → Type 0) (old : List Kept) where
  pub done_none : AreDone R old old 0
  done_none = record { long = refl; done = λ k d p q. absurd (omega arith); rest = λ k d p. refl }

  pub done_more : (now : List Kept) (i : ℕ) (x y : Kept) → AreDone R old now i → i < length now → x ≡ get_or now i x → R x y → AreDone R old (set now i y) (i + 1)
  done_more now i x y h p is r = record {
    long = length-set now i y ∙ h.long;
    done = λ k d q there. elim (cases_lt k i) [
      | inl less ↦
          subst (R (get_or old k d)) (sym (get_or-set_other now i k y d (λ e. let f : k ≡ i = e in omega arith))) (h.done k d less there)
      | inr more ↦
          let e : k ≡ i = omega arith in
          let was : x ≡ get_or old i d = get_or_read now i x p is d ∙ h.rest i d (omega arith) in
          let new : get_or (set now i y) k d ≡ y = ap (λ j. get_or (set now i y) j d) e ∙ get_or-set_same now i y d p in
          let from : get_or old k d ≡ x = ap (λ j. get_or old j d) e ∙ sym was in
          subst (R (get_or old k d)) (sym new) (subst (λ (z : Kept). R z y) (sym from) r)
    ];
    rest = λ k d q. get_or-set_other now i k y d (λ e. let f : k ≡ i = e in omega arith) ∙ h.rest k d (omega arith);
  }

  pub each_done : (now : List Kept) (i : ℕ) → AreDone R old now i → length old ≤ i → AreEach R old now
  each_done now i h p = record { long = h.long; each = λ k d q. h.done k d (omega arith) q }

  -- where the rest may stay as it is
  pub each_part : (now : List Kept) (i : ℕ) → AreDone R old now i → ((k : Kept) → R k k) → AreEach R old now
  each_part now i h stay = record {
    long = h.long;
    each = λ k d q. elim (cases_lt k i) [ inl less ↦ h.done k d less q | inr more ↦ subst (R (get_or old k d)) (sym (h.rest k d more)) (stay (get_or old k d)) ];
  }

  pub each_weaker : (Q : Kept → Kept → Type 0) (now : List Kept) (i : ℕ) → ((a b : Kept) → R a b → Q a b) → AreDone R old now i → AreDone Q old now i
  each_weaker Q now i f h = record { long = h.long; done = λ k d p q. f (get_or old k d) (get_or now k d) (h.done k d p q); rest = h.rest }

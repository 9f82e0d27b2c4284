-- One after another of what is kept becomes something else.
use Rattle.std.proofs.Common.{◌≡◌, ℕ, suc, ◌+◌, ◌<◌, ◌≤◌, Bool, ◌||◌, List, [], ◌∷◌, length, get_or, set, refl, ap, sym, subst, ◌∙◌, arith, inl, inr}
use Rattle.std.specs.List.{All, list_any}
use Rattle.std.proofs.lemmas.Bool.{cases_lt}
use Rattle.std.proofs.lemmas.List.{get_or_read, get_or-set_other, get_or-set_same, length-set}
use Rattle.kept_counts.specs.Following.{AreEach}
use Rattle.kept_counts.specs.Keeping.{Counted}

-- the first so many have become others, and the rest is as it was
pub record AreDone (R : Counted → Counted → Type 0) (old now : List Counted) (i : ℕ) : Type 0 where
  pub long : length now ≡ length old
  pub done : (k : ℕ) (d : Counted) → k < i → k < length old → R (get_or old k d) (get_or now k d)
  pub rest : (k : ℕ) (d : Counted) → i ≤ k → get_or now k d ≡ get_or old k d

module _ (R : Counted → Counted → Type 0) (old : List Counted) where
  pub done_none : AreDone R old old 0
  done_none = record { long = refl; done = λ k d p q. absurd (omega arith); rest = λ k d p. refl }

  pub done_more : (now : List Counted) (i : ℕ) (x y : Counted) → AreDone R old now i → i < length now → x ≡ get_or now i x → R x y → AreDone R old (set now i y) (i + 1)
  done_more now i x y h p is r = record {
    long = length-set now i y ∙ h.long;
    done = λ k d q there. elim (cases_lt k i) [
      | inl less ↦
          subst (R (get_or old k d)) (sym (get_or-set_other now i k y d (λ e. let f : k ≡ i = e in omega arith))) (h.done k d less there)
      | inr more ↦
          let e : k ≡ i = omega arith in
          let was : x ≡ get_or old i d = get_or_read now i x p is d ∙ h.rest i d (omega arith) in
          let new : get_or (set now i y) k d ≡ y = ap (λ j. get_or (set now i y) j d) e ∙ get_or-set_same now i y d p in
          let from : get_or old k d ≡ x = ap (λ j. get_or old j d) e ∙ sym was in
          subst (R (get_or old k d)) (sym new) (subst (λ (z : Counted). R z y) (sym from) r)
    ];
    rest = λ k d q. get_or-set_other now i k y d (λ e. let f : k ≡ i = e in omega arith) ∙ h.rest k d (omega arith);
  }

  pub each_done : (now : List Counted) (i : ℕ) → AreDone R old now i → length old ≤ i → AreEach R old now
  each_done now i h p = record { long = h.long; each = λ k d q. h.done k d (omega arith) q }

  -- what holds of each that has become another
  pub each_all : (new : List Counted) (P Q : Counted → Type 0) → AreEach R old new → ((a b : Counted) → R a b → P a → Q b) → All P old → All Q new
  each_all new P Q h step all k d p = let long = h.long in let q : k < length old = omega arith in step (get_or old k d) (get_or new k d) (h.each k d q) (all k d q)

  pub each_new : (new : List Counted) (Q : Counted → Type 0) → AreEach R old new → ((a b : Counted) → R a b → Q b) → All Q new
  each_new new Q h step k d p = let long = h.long in let q : k < length old = omega arith in step (get_or old k d) (get_or new k d) (h.each k d q)

-- where each passes as it did, one passes as one did
pub each_any : (R : Counted → Counted → Type 0) (p : Counted → Bool) → ((a b : Counted) → R a b → p b ≡ p a) → (old new : List Counted) → AreEach R old new → list_any p new ≡ list_any p old
each_any R p same [] [] h = refl
each_any R p same [] (y ∷ ys) h = let long = h.long in absurd (omega arith)
each_any R p same (x ∷ xs) [] h = let long = h.long in absurd (omega arith)
each_any R p same (x ∷ xs) (y ∷ ys) h =
    let long : suc (length ys) ≡ suc (length xs) = h.long in
    let rest = each_any R p same xs ys (record { long = omega arith; each = λ k d q. h.each (suc k) d (omega arith) }) in
    let first = same x y (h.each 0 x (omega arith)) in
    ap (λ b. b || list_any p ys) first ∙ ap (λ b. p x || b) rest

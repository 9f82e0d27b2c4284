-- The numbers that watches have: where all below a number are taken, there are as many watches.
use Rattle.std.proofs.Common.{◌≡◌, ◌==◌, ◌||◌, ℕ, zero, suc, ◌+◌, ◌<◌, ◌≤◌, Bool, true, false, List, [], ◌∷◌, ◌++◌, length, map, refl, ap, subst, ◌∙◌, arith, inl, inr}
use Rattle.std.proofs.lemmas.Bool.{cases_lt, eqb-true}
use Rattle.std.proofs.lemmas.List.{length-append, length-map}
use Rattle.relations.proofs.Ascending.{IsIn}
use Rattle.live.specs.Numbers.{is_taken}
use Rattle.live.specs.States.{WatchState}
use Rattle.live.proofs.Picks.{in_middle}
use Rattle.live.proofs.Placing.{middle_or_absent}

-- numbers that are all there are as many as are there
crowded : (n : ℕ) (xs : List ℕ) → ((k : ℕ) → k < n → IsIn k xs) → n ≤ length xs
crowded zero xs h = omega arith
crowded (suc n) xs h = elim (middle_or_absent n xs) [
  | inl m ↦
      let rest = crowded n (m.front ++ m.back) (λ k p. elim (in_middle m.front n m.back k (subst (IsIn k) m.is (h k (omega arith)))) [ inl e ↦ absurd (omega arith) | inr g ↦ g ]) in
      let long = ap length m.is ∙ length-append m.front (n ∷ m.back) in
      let both = length-append m.front m.back in
      omega arith
  | inr away ↦ absurd (away (h n (omega arith)))
]

abbrev number_of : WatchState → ℕ
number_of w = w.number

taken_in : (watches : List WatchState) (n : ℕ) → is_taken watches n ≡ true → IsIn n (map number_of watches)
taken_in [] n e = cc
taken_in (w ∷ watches) n e = at (w.number == n) refl (taken_in watches n) e
  where
    at : (b : Bool) → (w.number == n) ≡ b → (is_taken watches n ≡ true → IsIn n (map number_of watches)) → (b || is_taken watches n) ≡ true → IsIn n (map number_of (w ∷ watches))
    at true f rest g = inl (eqb-true w.number n f)
    at false f rest g = inr (rest g)

pub all_taken : (watches : List WatchState) (n : ℕ) → ((k : ℕ) → k < n → is_taken watches k ≡ true) → n ≤ length watches
all_taken watches n h = let a = crowded n (map number_of watches) (λ k p. taken_in watches k (h k p)) in let b = length-map watches number_of in omega arith

-- one more is taken
pub one_taken : (watches : List WatchState) (n : ℕ) → ((k : ℕ) → k < n → is_taken watches k ≡ true) → is_taken watches n ≡ true → n + 1 ≤ length watches
one_taken watches n h here = all_taken watches (n + 1) (λ k p. elim (cases_lt k n) [
  | inl q ↦ h k q
  | inr q ↦ ap (is_taken watches) (let e : k ≡ n = omega arith in e) ∙ here
])

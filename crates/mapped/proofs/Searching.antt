-- A search by halving: what it knows of the places that it has left behind, and what it costs.
use Rattle.std.proofs.Common.{◌≡◌, ◌≢◌, ℕ, ◌+◌, ◌-◌, ◌*◌, ◌^◌, ◌<◌, ◌≤◌, true, false, refl, ap, sym, subst, ◌∙◌, arith, inl, inr}
use Rattle.std.specs.declared.cmp.Ordering.{Ordering}
use Rattle.std.specs.declared.cmp.Ordering.TheVariants.{Less, Equal, Greater}
use Rattle.std.specs.Ordering.{is_lt}
use Rattle.std.proofs.lemmas.Bool.{cases_lt}
use Rattle.std.proofs.Math.Nat.{mul-le-mul_left, mul_assoc, le_trans}
use Rattle.std.proofs.lemmas.Grind.{pow_more}

pub less_from : (o : Ordering) → is_lt o ≡ true → o ≡ Less
less_from Less e = refl
less_from Equal e = cc
less_from Greater e = cc

pub not_less_from : (o : Ordering) → is_lt o ≡ false → o ≢ Less
not_less_from Less e f = cc
not_less_from Equal e f = cc
not_less_from Greater e f = cc

pub no_less : (o : Ordering) → o ≢ Less → is_lt o ≡ false
no_less Less f = absurd (f refl)
no_less Equal f = refl
no_less Greater f = refl

-- answers by place, of which those that are less stand in front
module _ (f : ℕ → Ordering) (n : ℕ) (falls : (i j : ℕ) → i < j → j < n → f j ≡ Less → f i ≡ Less) (middle : ℕ) (within : middle < n) where
  pub below_more : is_lt (f middle) ≡ true → (k : ℕ) → k < middle + 1 → f k ≡ Less
  below_more e k p = elim (cases_lt k middle) [
    | inl q ↦ falls k middle q within (less_from (f middle) e)
    | inr q ↦ ap f (let same : k ≡ middle = omega arith in same) ∙ less_from (f middle) e
  ]

  pub from_more : is_lt (f middle) ≡ false → (k : ℕ) → middle ≤ k → k < n → f k ≢ Less
  from_more e k p q less = not_less_from (f middle) e (elim (cases_lt middle k) [
    | inl far ↦ falls middle k far q less
    | inr near ↦ ap f (let same : middle ≡ k = omega arith in same) ∙ less
  ])

-- one step more halves what is left
pub halved : (start before after d m n : ℕ) → start ≤ before → after ≡ before + 1 → 0 < d → 2 * m ≤ d → 2 ^ (before - start) * d ≤ n
    → (2 ^ (after - start) * m ≤ n) × (2 ^ (after - start) ≤ 2 * n + 1)
halved start before after d m n least more some half left =
    let steps : ℕ = before - start in
    let x : ℕ = 2 ^ steps in
    let e : after - start ≡ steps + 1 = omega arith in
    let twice : 2 ^ (after - start) ≡ x * 2 = ap (λ k. 2 ^ k) e ∙ pow_more 2 steps in
    let one : x * (2 * m) ≤ x * d = mul-le-mul_left x half in
    let first : 1 ≤ d = omega arith in
    let two : x * 1 ≤ x * d = mul-le-mul_left x first in (
      subst (λ y. y * m ≤ n) (sym twice) (subst (λ y. y ≤ n) (sym (mul_assoc x 2 m)) (le_trans one left)),
      subst (λ y. y ≤ 2 * n + 1) (sym twice) (omega arith),
    )

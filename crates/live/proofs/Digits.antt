-- Binary digits bound a search by halves.
use Rattle.std.proofs.Common.{◌≡◌, ◌==◌, ℕ, zero, suc, ◌+◌, ◌*◌, ◌/◌, ◌^◌, ◌≤◌, Bool, true, false, if◌then◌else◌, refl, ap, arith}
use Rattle.std.proofs.lemmas.Grind.{pow_more}
use Rattle.std.proofs.lemmas.Nat.{pow_pos}
use Rattle.std.proofs.lemmas.Bool.{eqb-true}
use Rattle.live.specs.Costs.{bits, digits}

bits_bound : (fuel steps n : ℕ) → n ≤ fuel → 2 ^ steps ≤ 2 * n + 1 → steps ≤ bits fuel n
bits_bound fuel zero n le h = omega arith
bits_bound zero (suc steps) n le h = absurd (let e = pow_more 2 steps in let f : 2 ^ suc steps ≡ 2 ^ (steps + 1) = ap (λ k. 2 ^ k) (let g : suc steps ≡ steps + 1 = omega arith in g) in let pos = pow_pos steps in omega arith)
bits_bound (suc fuel) (suc steps) n le h =
    let e = pow_more 2 steps in
    let f : 2 ^ suc steps ≡ 2 ^ (steps + 1) = ap (λ k. 2 ^ k) (let g : suc steps ≡ steps + 1 = omega arith in g) in
    let pos = pow_pos steps in
    let half : 2 ^ steps ≤ 2 * (n / 2) + 1 = omega arith in
    let rest = bits_bound fuel steps (n / 2) (omega arith) half in
    at (n == 0) refl rest
  where
    at : (b : Bool) → (n == 0) ≡ b → steps ≤ bits fuel (n / 2) → suc steps ≤ (if b then 0 else suc (bits fuel (n / 2)))
    at true g r = absurd (let z = eqb-true n 0 g in let e = pow_more 2 steps in let f : 2 ^ suc steps ≡ 2 ^ (steps + 1) = ap (λ k. 2 ^ k) (let w : suc steps ≡ steps + 1 = omega arith in w) in let pos = pow_pos steps in omega arith)
    at false g r = omega arith

pub digits_bound : (steps n : ℕ) → 2 ^ steps ≤ 2 * n + 1 → steps ≤ digits n
unfolding digits
digits_bound steps n h = bits_bound n steps n (omega arith) h

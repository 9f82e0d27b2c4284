-- Numbers that move, in the words of one row and of several.
use Rattle.std.proofs.Common.{◌≡◌, ◌≢◌, ℕ, suc, ◌<◌, ◌≤◌, List, [], ◌∷◌, map, refl, ap, ◌∙◌, arith}
use Rattle.std.specs.List.{All}
use Rattle.std.proofs.lemmas.Bool.Decides.{nat_tests}
use Rattle.row_edits.specs.Runs.{moved_down, moved_up}
use Rattle.live.specs.Placing.{closed, opened}

module _ (f g : ℕ → ℕ) (P : ℕ → Type 0) (agree : (k : ℕ) → P k → f k ≡ g k) where
  pub map_alike : (ks : List ℕ) → All P ks → map f ks ≡ map g ks
  map_alike [] all = refl
  map_alike (k ∷ ks) all = ap (λ x. x ∷ map f ks) (agree k (all 0 0 (omega arith))) ∙ ap (λ xs. g k ∷ xs) (map_alike ks (λ i d q. all (suc i) d (omega arith)))

module _ (f : ℕ → ℕ) (P : ℕ → Type 0) (stays : (k : ℕ) → P k → f k ≡ k) where
  pub map_stays : (ks : List ℕ) → All P ks → map f ks ≡ ks
  map_stays [] all = refl
  map_stays (k ∷ ks) all = ap (λ x. x ∷ map f ks) (stays k (all 0 0 (omega arith))) ∙ ap (λ xs. k ∷ xs) (map_stays ks (λ i d q. all (suc i) d (omega arith)))

pub up_one : (p k : ℕ) → moved_up p 1 k ≡ opened p k
up_one p k = refl

pub down_one : (p k : ℕ) → k ≢ p → moved_down p 1 k ≡ closed p k
down_one p k ne = grind (arith, nat_tests)

pub opened_below : (p k : ℕ) → k < p → k ≡ opened p k
opened_below p k lt = grind (arith, nat_tests)

pub up_below : (at n k : ℕ) → k < at → k ≡ moved_up at n k
up_below at n k lt = grind (arith, nat_tests)

pub down_large : (p k : ℕ) → k ≢ p → p ≤ k → 1 ≤ k
down_large p k ne le = omega arith

-- Runs of numbers, and numbers that are kept in place.
use Rattle.std.proofs.Common.{◌≡◌, ℕ, zero, suc, ◌+◌, ◌<◌, ◌≤◌, Bool, true, false, List, [], ◌∷◌, ◌++◌, length, get_or, set, refl, ap, ◌∙◌, arith}
use Rattle.std.proofs.lemmas.List.{take-set, drop-set-lt}
use Rattle.std.proofs.Math.ListN.{length-set}
use Rattle.std.proofs.lemmas.List.Filters.{FiltersInPlace, FiltersInPlace-more_no}
use Rattle.std.specs.List.{All, filter}
use Rattle.std.proofs.lemmas.Bool.Decides.{nat_tests}
use Rattle.std.proofs.lemmas.List.Elements.{filter_passes}
use Rattle.row_edits.specs.Runs.{is_outside, run}

run_suc : (first n : ℕ) → run first (suc n) ≡ run first n ++ (first + n) ∷ []
run_suc first zero = ap (λ x. x ∷ []) (let e : first ≡ first + 0 = omega arith in e)
run_suc first (suc n) =
    ap (λ xs. first ∷ xs) (run_suc (first + 1) n ∙ ap (λ x. run (first + 1) n ++ x ∷ []) (let e : (first + 1) + n ≡ first + suc n = omega arith in e))

pub run_more : (first n : ℕ) → run first (n + 1) ≡ run first n ++ (first + n) ∷ []
run_more first n = ap (run first) (let e : n + 1 ≡ suc n = omega arith in e) ∙ run_suc first n

-- one that does not pass is written, and is not counted
pub filters_skip : {X : Type 0} {p : X → Bool} {xs ys : List X} {k i : ℕ} → {x : X} → FiltersInPlace p xs ys k i → i < length ys → p x ≡ false → x ≡ get_or ys i x → FiltersInPlace p xs (set ys k x) k (i + 1)
filters_skip {X} {p} {xs} {ys} {k} {i} {x} h lt e is =
    let n : FiltersInPlace p xs ys k (i + 1) = FiltersInPlace-more_no h lt e is in
    let near : k < i + 1 = omega (arith, h.behind) in
    record {
      front = take-set ys k x ∙ n.front;
      rest = drop-set-lt (i + 1) ys k x near ∙ n.rest;
      behind = n.behind;
      within = n.within;
      long = simp length-set n.long;
    }

outside_above : (low count p : ℕ) → is_outside low count p ≡ true → low ≤ p → count ≤ p
outside_above low count p e h = grind (arith, nat_tests)

-- what stays and is lowered is not below the count
pub filter_lowers : (low count : ℕ) (xs : List ℕ) → All (λ p. low ≤ p → count ≤ p) (filter (is_outside low count) xs)
filter_lowers low count xs k d l h = outside_above low count (get_or (filter (is_outside low count) xs) k d) (filter_passes (is_outside low count) xs k d l) h

pub outside_low : (low count p : ℕ) → p < low → is_outside low count p ≡ true
outside_low low count p e = grind (arith, nat_tests)

pub outside_high : (low count p : ℕ) → low + count ≤ p → is_outside low count p ≡ true
outside_high low count p e = grind (arith, nat_tests)

pub inside : (low count p : ℕ) → low ≤ p → p < low + count → is_outside low count p ≡ false
inside low count p e h = grind (arith, nat_tests)

pub run_append : (a n m k : ℕ) → k ≡ n + m → run a n ++ run (a + n) m ≡ run a k
run_append a zero m k e = ap (λ b. run b m) (let f : a + 0 ≡ a = omega arith in f) ∙ ap (run a) (let f : m ≡ k = omega arith in f)
run_append a (suc n) m zero e = absurd (omega arith)
run_append a (suc n) m (suc k) e =
    ap (λ ys. a ∷ ys) (ap (λ b. run (a + 1) n ++ run b m) (let f : a + suc n ≡ (a + 1) + n = omega arith in f) ∙ run_append (a + 1) n m k (omega arith))

pub length-run : (a n : ℕ) → length (run a n) ≡ n
length-run a zero = refl
length-run a (suc n) = let e = length-run (a + 1) n in omega arith

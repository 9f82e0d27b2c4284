-- Laws of values that are taken in parts.
use Rattle.std.proofs.Common.{◌≡◌, ℕ, ◌+◌, ◌-◌, ◌≤◌, List, [], ◌∷◌, ◌++◌, length, take, drop, sum, sym, ap, ◌∙◌, arith}
use Rattle.std.proofs.lemmas.List.{append-nil, drop-drop, drop_all, take_all}
use Rattle.segments.specs.Joined.{joined, counts_of}
use Rattle.segments.proofs.Joined.{counts-spliced, length-joined}
use Rattle.segments.proofs.Lists.{take-split}
use Rattle.bytes_col.specs.Growing.{front}

-- the values from a place on, in two parts
pub parts_next : (xs : List (List ℕ)) (from at next : ℕ) → from ≤ at → at ≤ next → take (at - from) (drop from xs) ++ take (next - at) (drop at xs) ≡ take (next - from) (drop from xs)
parts_next xs from at next order more =
    let m : ℕ = at - from in
    let n : ℕ = next - from in
    let there : from + m ≡ at = omega arith in
    let step : next - at ≡ n - m = omega arith in
    sym (take-split (drop from xs) m n (omega arith) ∙ ap (λ ys. take m (drop from xs) ++ take (n - m) ys) (drop-drop m from xs ∙ ap (λ k. drop k xs) there) ∙ ap (λ k. take m (drop from xs) ++ take k (drop at xs)) (sym step))

-- chunks in place of some, where the list that is made has few values
pub put_few : (ss fresh : List (List (List ℕ))) (a b : ℕ) → length (joined (take a ss ++ (fresh ++ drop b ss))) ≤ 16777216 → sum (take a (counts_of ss) ++ (counts_of fresh ++ drop b (counts_of ss))) ≤ 16777216
put_few ss fresh a b few =
    omega (arith, few, ap sum (counts-spliced ss fresh a b), length-joined (take a ss ++ (fresh ++ drop b ss)))

-- no chunks in place of the last
pub none_at_last : (ss : List (List (List ℕ))) (n : ℕ) → n ≡ length ss → take (n - 1) ss ++ ([] ++ drop n ss) ≡ front ss
none_at_last ss n is =
    ap (λ zs. take (n - 1) ss ++ zs) (drop_all n ss (omega arith)) ∙ append-nil (take (n - 1) ss) ∙ ap (λ k. take (k - 1) ss) is

-- a chunk behind all
pub one_at_end : (ss : List (List (List ℕ))) (s : List (List ℕ)) (n : ℕ) → n ≡ length ss → take n ss ++ ((s ∷ []) ++ drop n ss) ≡ ss ++ s ∷ []
one_at_end ss s n is =
    ap (λ zs. take n ss ++ (s ∷ zs)) (drop_all n ss (omega arith)) ∙ ap (λ zs. zs ++ s ∷ []) (take_all n ss (omega arith))

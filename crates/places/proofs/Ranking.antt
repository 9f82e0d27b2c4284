-- Positions that have a rank.
use Rattle.std.proofs.Common.{◌≡◌, ◌≢◌, ℕ, true, false, not, List, [], ◌∷◌, ◌++◌, length, get_or, map, refl, ap, sym, ◌∙◌, ◌≤◌, arith}
use Rattle.std.specs.List.{concat, filter}
use Rattle.std.proofs.lemmas.Bool.{eq-eqb, ne_eqb}
use Rattle.std.proofs.lemmas.List.{length-map, map-append}
use Rattle.std.proofs.lemmas.List.Elements.{filter-append}
use Rattle.places.specs.Numbers.{has_rank, kept_ranked, no_rank}
use Rattle.places.proofs.Passes.{filter_few}

pub ranked : (k : ℕ) → k ≢ no_rank → has_rank k ≡ true
ranked k ne = ap not (ne_eqb k no_rank ne)

pub unranked : (k : ℕ) → k ≡ no_rank → has_rank k ≡ false
unranked k e = ap not (eq-eqb k no_rank e)

ranked-append : (ranks xs ys : List ℕ) → kept_ranked ranks (xs ++ ys) ≡ kept_ranked ranks xs ++ kept_ranked ranks ys
ranked-append ranks xs ys =
    ap (filter has_rank) (map-append (λ k. get_or ranks k 0) xs ys) ∙ filter-append has_rank (map (λ k. get_or ranks k 0) xs) (map (λ k. get_or ranks k 0) ys)

pub concat-ranked : (ranks : List ℕ) (cs : List (List ℕ)) → concat (map (kept_ranked ranks) cs) ≡ kept_ranked ranks (concat cs)
concat-ranked ranks [] = refl
concat-ranked ranks (c ∷ cs) = ap (λ ys. kept_ranked ranks c ++ ys) (concat-ranked ranks cs) ∙ sym (ranked-append ranks c (concat cs))

pub ranked_few : (ranks xs : List ℕ) → length (kept_ranked ranks xs) ≤ length xs
ranked_few ranks xs =
    let a = filter_few has_rank (map (λ k. get_or ranks k 0) xs) in
    let b = length-map xs (λ k. get_or ranks k 0) in
    omega arith

-- Chunks that are empty go.
use Rattle.std.proofs.Common.{◌≡◌, ℕ, suc, ◌+◌, ◌<◌, List, [], ◌∷◌, ◌++◌, length, get_or, take, drop, refl, ap, sym, ◌∙◌, arith}
use Rattle.std.specs.List.{concat, remove}
use Rattle.std.proofs.lemmas.List.Folds.{concat-append}
use Rattle.places.proofs.Parts.{concat_parts}

pub swept : (cs : List (List ℕ)) (k : ℕ) → k < length cs → get_or cs k [] ≡ [] → concat (remove cs k) ≡ concat cs
swept cs k l e =
    concat-append (take k cs) (drop (suc k) cs) ∙ ap (λ n. concat (take k cs) ++ concat (drop n cs)) (let s : suc k ≡ k + 1 = omega arith in s)
    ∙ ap (λ c. concat (take k cs) ++ (c ++ concat (drop (k + 1) cs))) (sym e) ∙ sym (concat_parts cs k l)

pub nothing : (xs : List ℕ) → length xs ≡ 0 → xs ≡ []
nothing [] e = refl
nothing (x ∷ xs) e = absurd (omega arith)

-- Two chunks in one.
use Rattle.std.proofs.Common.{◌≡◌, ℕ, suc, ◌+◌, ◌<◌, List, [], ◌++◌, length, get_or, set, take, drop, ap, sym, ◌∙◌, arith}
use Rattle.std.specs.List.{concat, remove}
use Rattle.std.proofs.lemmas.List.{append_assoc, drop_more, get_or_append_left, get_or-take, length-take-le, drop_at, take-take, take-append-le}
use Rattle.std.proofs.lemmas.List.Edits.{length-remove}
use Rattle.places.proofs.Parts.{concat_parts, concat_set}

module _ (cs : List (List ℕ)) (k : ℕ) (there : k + 1 < length cs) where
  abbrev left : List (List ℕ)
  left = remove cs (k + 1)

  pub left_long : length left + 1 ≡ length cs
  left_long = length-remove cs (k + 1) there

  front : take k left ≡ take k cs
  front = take-append-le k (take (k + 1) cs) (drop (suc (k + 1)) cs) (let l = length-take-le (k + 1) cs (omega arith) in omega arith) ∙ take-take k (k + 1) cs (omega arith)

  pub here : (d : List ℕ) → get_or left k d ≡ get_or cs k d
  here d =
      get_or_append_left (take (k + 1) cs) (drop (suc (k + 1)) cs) d k (let l = length-take-le (k + 1) cs (omega arith) in omega arith)
      ∙ get_or-take (k + 1) cs k d (omega arith)

  back : drop (k + 1) left ≡ drop (k + 1 + 1) cs
  back = drop_at (take (k + 1) cs) (drop (suc (k + 1)) cs) (k + 1) (length-take-le (k + 1) cs (omega arith)) ∙ ap (λ n. drop n cs) (let e : suc (k + 1) ≡ k + 1 + 1 = omega arith in e)

  pub joined : concat (set left k (get_or cs k [] ++ get_or cs (k + 1) [])) ≡ concat cs
  joined =
      let both : List ℕ = get_or cs k [] ++ get_or cs (k + 1) [] in
      concat_set left k both (let l = left_long in omega arith)
      ∙ ap (λ ys. concat ys ++ (both ++ concat (drop (k + 1) left))) front
      ∙ ap (λ ys. concat (take k cs) ++ (both ++ concat ys)) back
      ∙ ap (λ ys. concat (take k cs) ++ ys) (append_assoc (get_or cs k []) (get_or cs (k + 1) []) (concat (drop (k + 1 + 1) cs)))
      ∙ ap (λ ys. concat (take k cs) ++ (get_or cs k [] ++ concat ys)) (sym (drop_more cs (k + 1) [] there))
      ∙ sym (concat_parts cs k (omega arith))

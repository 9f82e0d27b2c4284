-- A row comes in the place of another: it is taken out, and the new one put in.
use Rattle.std.proofs.Common.{◌≡◌, ℕ, ◌+◌, ◌<◌, List, ◌∷◌, ◌++◌, length, set, take, drop, ap, sym, ◌∙◌, add-one, arith}
use Rattle.std.proofs.lemmas.List.{length-take-le, take-append-le, take_all, drop-append-le, drop_all, set_split}

pub changed : {X : Type 0} (rows : List X) (at : ℕ) (row : X) → at < length rows
    → take at (take at rows ++ drop (at + 1) rows) ++ (row ∷ drop at (take at rows ++ drop (at + 1) rows)) ≡ set rows at row
changed rows at row p =
    let long = length-take-le at rows (omega arith) in
    let front = take-append-le at (take at rows) (drop (at + 1) rows) (omega arith) ∙ take_all at (take at rows) (omega arith) in
    let back = drop-append-le at (take at rows) (drop (at + 1) rows) (omega arith) ∙ ap (λ xs. xs ++ drop (at + 1) rows) (drop_all at (take at rows) (omega arith)) in
    let whole = set_split rows at row p in
    ap (λ xs. xs ++ (row ∷ drop at (take at rows ++ drop (at + 1) rows))) front ∙ ap (λ xs. take at rows ++ (row ∷ xs)) back ∙ (let e : take at rows ++ (row ∷ drop (at + 1) rows) ≡ set rows at row = sym (whole ∙ ap (λ n. take at rows ++ (row ∷ drop n rows)) (sym (add-one at))) in e)

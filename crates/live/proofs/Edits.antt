-- Edits of a list of rows are events of it.
use Rattle.std.proofs.Common.{◌≡◌, ℕ, suc, ◌<◌, ◌≤◌, List, ◌++◌, length, set, take, drop, refl, ap, sym, ◌∙◌, arith}
use Rattle.std.specs.List.{insert, remove}
use Rattle.std.proofs.lemmas.List.{drop-set-lt, length-set, length-take-le, take-append-drop, take-set}
use Rattle.std.proofs.lemmas.List.Edits.{length-insert, length-remove}
use Rattle.mk_value.specs.Data.{Datum}
use Rattle.live.specs.Watching.{IsTurn}
use Rattle.live.specs.declared.turn.Turn.TheVariants.{Comes, Goes, Changes}
use Rattle.live.proofs.Placing.{without_middle}

removed_again : (xs : List (List Datum)) (p : ℕ) (x : List Datum) → p ≤ length xs → remove (insert xs p x) p ≡ xs
removed_again xs p x le =
    ap (remove (insert xs p x)) (sym (length-take-le p xs le)) ∙ without_middle x (take p xs) (drop p xs) ∙ take-append-drop p xs

pub inserted_turn : (xs : List (List Datum)) (p : ℕ) (x : List Datum) → p ≤ length xs → IsTurn (Comes p) xs (insert xs p x)
inserted_turn xs p x le = record {
  went = λ q e. cc;
  came = λ q e. let same : p ≡ q = cc in let long = length-insert xs p x le in omega arith;
  rest = sym (removed_again xs p x le);
}

pub removed_turn : (xs : List (List Datum)) (p : ℕ) → p < length xs → IsTurn (Goes p) xs (remove xs p)
removed_turn xs p lt = record {
  went = λ q e. let same : p ≡ q = cc in omega arith;
  came = λ q e. cc;
  rest = refl;
}

pub replaced_turn : (xs : List (List Datum)) (p : ℕ) (x : List Datum) → p < length xs → IsTurn (Changes p) xs (insert (remove xs p) p x)
replaced_turn xs p x lt =
    let few = length-remove xs p lt in
    let le : p ≤ length (remove xs p) = omega arith in
    record {
      went = λ q e. let same : p ≡ q = cc in omega arith;
      came = λ q e. let same : p ≡ q = cc in let long = length-insert (remove xs p) p x le in omega arith;
      rest = sym (removed_again (remove xs p) p x le);
    }

pub set_turn : (xs : List (List Datum)) (p : ℕ) (x : List Datum) → p < length xs → IsTurn (Changes p) xs (set xs p x)
set_turn xs p x lt =
    let long = length-set xs p x in
    record {
      went = λ q e. let same : p ≡ q = cc in omega arith;
      came = λ q e. let same : p ≡ q = cc in omega arith;
      rest = ap (λ ys. take p xs ++ ys) (sym (drop-set-lt (suc p) xs p x (omega arith))) ∙ ap (λ ys. ys ++ drop (suc p) (set xs p x)) (sym (take-set xs p x));
    }

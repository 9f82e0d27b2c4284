-- The positions of the rows that pass a test, one row further.
use Rattle.std.proofs.Common.{◌≡◌, ℕ, zero, suc, ◌+◌, ◌<◌, ◌≤◌, Bool, true, false, cond, List, [], ◌∷◌, ◌++◌, length, get_or, take, map, All, refl, ap, sym, ◌∙◌, arith, add-one}
use Rattle.std.specs.List.{filter}
use Rattle.std.proofs.lemmas.List.{map-append, append-nil, take_all, take_more}
use Rattle.std.proofs.lemmas.List.Elements.{All-filter, filter-append}
use Rattle.relations.specs.Positions.{numbers, passing}
use Rattle.relations.proofs.Numbers.{numbers_below, numbers_more, length-numbers}

-- a filter keeps at most all
filter_few : {X : Type 0} (p : X → Bool) (xs : List X) → length (filter p xs) ≤ length xs
filter_few p [] = omega arith
filter_few p (x ∷ xs) = let rest = filter_few p xs in one (p x) rest
  where
    one : (b : Bool) → length (filter p xs) ≤ length xs → length (cond b (x ∷ filter p xs) (filter p xs)) ≤ length (x ∷ xs)
    one true h = omega arith
    one false h = omega arith

module _ {X : Type 0} (test : X → Bool) (d : X) (rows : List X) where
  abbrev passes_at : ℕ → Bool
  passes_at i = test (get_or rows i d)

  more : (n : ℕ) → filter passes_at (numbers (n + 1)) ≡ filter passes_at (numbers n) ++ cond (passes_at n) (n ∷ []) []
  more n = ap (filter passes_at) (numbers_more n) ∙ filter-append passes_at (numbers n) (n ∷ [])

  pub skipped : (n : ℕ) (positions : List ℕ) → positions ≡ filter passes_at (numbers n) → test (get_or rows n d) ≡ false → positions ≡ filter passes_at (numbers (n + 1))
  skipped n positions h e = h ∙ sym (more n ∙ ap (λ b. filter passes_at (numbers n) ++ cond b (n ∷ []) []) e ∙ append-nil (filter passes_at (numbers n)))

  pub taken : (n : ℕ) (positions : List ℕ) → positions ≡ filter passes_at (numbers n) → test (get_or rows n d) ≡ true → positions ++ n ∷ [] ≡ filter passes_at (numbers (n + 1))
  taken n positions h e = ap (λ ps. ps ++ n ∷ []) h ∙ sym (more n ∙ ap (λ b. filter passes_at (numbers n) ++ cond b (n ∷ []) []) e)

  -- there are no more of them than rows, and each is that of a row
  pub passing_few : length (passing test d rows) ≤ length rows
  passing_few = let f = filter_few passes_at (numbers (length rows)) in let e = length-numbers (length rows) in omega arith

  pub passing_in : All (λ i. i < length rows) (passing test d rows)
  passing_in = All-filter passes_at (λ i. i < length rows) (numbers (length rows)) (numbers_below (length rows))

  -- the rows at these positions are those that pass
  rows_below : (n : ℕ) → n ≤ length rows → map (λ i. get_or rows i d) (filter passes_at (numbers n)) ≡ filter test (take n rows)
  rows_below zero p = refl
  rows_below (suc n) p =
      let at : List ℕ → List X = map (λ i. get_or rows i d) in
      ap (λ k. at (filter passes_at (numbers k))) (sym (add-one n)) ∙ ap at (more n)
      ∙ map-append (λ i. get_or rows i d) (filter passes_at (numbers n)) (cond (passes_at n) (n ∷ []) [])
      ∙ ap (λ ys. ys ++ at (cond (passes_at n) (n ∷ []) [])) (rows_below n (omega arith))
      ∙ ap (λ ys. filter test (take n rows) ++ ys) (last (passes_at n))
      ∙ sym (filter-append test (take n rows) (get_or rows n d ∷ []))
      ∙ ap (filter test) (sym (take_more rows n d (omega arith)) ∙ ap (λ k. take k rows) (add-one n))
    where
      last : (b : Bool) → map (λ i. get_or rows i d) (cond b (n ∷ []) []) ≡ cond b (get_or rows n d ∷ []) []
      last true = refl
      last false = refl

  pub rows_passing : map (λ i. get_or rows i d) (passing test d rows) ≡ filter test rows
  rows_passing = rows_below (length rows) (omega arith) ∙ ap (filter test) (take_all (length rows) rows (omega arith))

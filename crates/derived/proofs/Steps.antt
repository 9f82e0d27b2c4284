-- Every s-th element.
use Rattle.std.proofs.Common.{◌≡◌, ℕ, zero, suc, ◌+◌, ◌-◌, ◌<◌, ◌≤◌, min, List, [], ◌∷◌, ◌++◌, length, get_or, map, take, drop, reverse, All, Bool, true, false, ℤ, pos, negsuc, refl, ap, sym, subst, ◌∙◌, arith}
use Rattle.std.proofs.lemmas.List.{drop-drop, drop_all, drop_more, append-nil, append_assoc, take_min, map-append, reverse-append, length-reverse}
use Rattle.std.proofs.lemmas.List.Sorted.{All-permutation, IsPermutation-reverse}
use Rattle.std.proofs.lemmas.List.Elements.{All-cons, All-head, All-tail, All-weaker}
use Rattle.relations.specs.Positions.{numbers}
use Rattle.derived.specs.Operators.{every, turned_if}
use Rattle.derived.specs.Refusals.{is_zero}
use Rattle.relations.specs.Rows.{rows_at}
use Rattle.mk_value.specs.Data.{Datum}
use Rattle.relations.proofs.Numbers.{numbers_at, numbers_below, length-numbers, all_places}

-- skipping the first n is dropping them
pub every_from : {X : Type 0} (s n : ℕ) (xs : List X) → every s n xs ≡ every s 0 (drop n xs)
every_from s zero xs = refl
every_from s (suc n) [] = refl
every_from s (suc n) (x ∷ xs) = every_from s n xs

pub map_every : {X Y : Type 0} (f : X → Y) (s n : ℕ) (xs : List X) → map f (every s n xs) ≡ every s n (map f xs)
map_every f s n [] = refl
map_every f s zero (x ∷ xs) = ap (λ ys. f x ∷ ys) (map_every f s (s - 1) xs)
map_every f s (suc n) (x ∷ xs) = map_every f s n xs

pub all_every : {X : Type 0} (P : X → Type 0) (s n : ℕ) (xs : List X) → All P xs → All P (every s n xs)
all_every P s n [] h = h
all_every P s zero (x ∷ xs) h = All-cons P x (every s (s - 1) xs) (All-head P x xs h) (all_every P s (s - 1) xs (All-tail P x xs h))
all_every P s (suc n) (x ∷ xs) h = all_every P s n xs (All-tail P x xs h)

pub length_every : {X : Type 0} (s n : ℕ) (xs : List X) → length (every s n xs) ≤ length xs
length_every s n [] = omega arith
length_every s zero (x ∷ xs) = let e = length_every s (s - 1) xs in omega arith
length_every s (suc n) (x ∷ xs) = let e = length_every s n xs in omega arith

-- one step further
pub every_step : {X : Type 0} (s at : ℕ) (xs : List X) (d : X) → 0 < s → at < length xs → every s 0 (drop at xs) ≡ get_or xs at d ∷ every s 0 (drop (at + s) xs)
every_step s at xs d p q =
    ap (every s 0) (drop_more xs at d q)
    ∙ ap (λ ys. get_or xs at d ∷ ys) (every_from s (s - 1) (drop (at + 1) xs) ∙ ap (every s 0) (drop-drop (s - 1) (at + 1) xs ∙ ap (λ n. drop n xs) (let e : (at + 1) + (s - 1) ≡ at + s = omega arith in e)))

pub steps_more : (s at end first : ℕ) (taken : List ℕ) → 0 < s → at < end → taken ++ every s 0 (drop at (numbers end)) ≡ every s first (numbers end)
    → (taken ++ at ∷ []) ++ every s 0 (drop (at + s) (numbers end)) ≡ every s first (numbers end)
steps_more s at end first taken p q h =
    let long = length-numbers end in
    append_assoc taken (at ∷ []) (every s 0 (drop (at + s) (numbers end)))
    ∙ ap (λ ys. taken ++ ys) (ap (λ k. k ∷ every s 0 (drop (at + s) (numbers end))) (sym (numbers_at end at 0 q)) ∙ sym (every_step s at (numbers end) 0 p (omega arith)))
    ∙ h

pub steps_done : (s at end first : ℕ) (taken : List ℕ) → end ≤ at → taken ++ every s 0 (drop at (numbers end)) ≡ every s first (numbers end) → taken ≡ every s first (numbers end)
steps_done s at end first taken q h =
    let long = length-numbers end in
    sym (append-nil taken) ∙ ap (λ ys. taken ++ every s 0 ys) (sym (drop_all at (numbers end) (omega arith))) ∙ h

-- the rows at steps
turned_in : (backwards : Bool) (n : ℕ) (positions : List ℕ) → All (λ i. i < n) positions → All (λ i. i < n) (turned_if backwards positions)
turned_in true n positions h = All-permutation (λ i. i < n) positions (reverse positions) (IsPermutation-reverse positions) h
turned_in false n positions h = h

turned_length : (backwards : Bool) (positions : List ℕ) → length (turned_if backwards positions) ≡ length positions
turned_length true positions = length-reverse positions
turned_length false positions = refl

map_reverse : {X Y : Type 0} (f : X → Y) (xs : List X) → map f (reverse xs) ≡ reverse (map f xs)
map_reverse f [] = refl
map_reverse f (x ∷ xs) =
    ap (map f) (reverse-append (x ∷ []) xs) ∙ map-append f (reverse xs) (x ∷ []) ∙ ap (λ ys. ys ++ f x ∷ []) (map_reverse f xs) ∙ sym (reverse-append (f x ∷ []) (map f xs))

turned_map : {X Y : Type 0} (f : X → Y) (backwards : Bool) (xs : List X) → map f (turned_if backwards xs) ≡ turned_if backwards (map f xs)
turned_map f true xs = map_reverse f xs
turned_map f false xs = refl

pub slice_rows : (rows : List (List Datum)) (first limit s : ℕ) (backwards : Bool)
    → rows_at rows (turned_if backwards (every s first (numbers (min limit (length rows))))) ≡ turned_if backwards (every s first (take limit rows))
slice_rows rows first limit s backwards =
    let at : ℕ → List Datum = λ i. get_or rows i [] in
    turned_map at backwards (every s first (numbers (min limit (length rows))))
    ∙ ap (turned_if backwards) (map_every at s first (numbers (min limit (length rows)))
    ∙ ap (every s first) (all_places rows [] (min limit (length rows)) (omega arith) ∙ take_min limit rows))

pub slice_in : (first limit s n : ℕ) (backwards : Bool) (positions : List ℕ) → positions ≡ turned_if backwards (every s first (numbers (min limit n))) → All (λ i. i < n) positions
slice_in first limit s n backwards positions e =
    subst (All (λ i. i < n)) (sym e) (turned_in backwards n (every s first (numbers (min limit n)))
    (all_every (λ i. i < n) s first (numbers (min limit n)) (All-weaker (λ i. i < min limit n) (λ i. i < n) (λ i p. omega arith) (numbers (min limit n)) (numbers_below (min limit n)))))

pub slice_few : (first limit s n : ℕ) (backwards : Bool) (positions : List ℕ) → positions ≡ turned_if backwards (every s first (numbers (min limit n))) → length positions ≤ n
slice_few first limit s n backwards positions e =
    let a = ap length e in
    let t = turned_length backwards (every s first (numbers (min limit n))) in
    let f = length_every s first (numbers (min limit n)) in
    let m = length-numbers (min limit n) in
    omega arith

pub not_zero : (step : ℤ) → (step ≡ pos 0 → ⊥) → is_zero step ≡ false
not_zero (pos zero) h = absurd (h refl)
not_zero (pos (suc n)) h = refl
not_zero (negsuc n) h = refl

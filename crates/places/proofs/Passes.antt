-- One pass over all chunks.
use Rattle.std.proofs.Common.{◌≡◌, Bool, true, false, if◌then◌else◌, ℕ, suc, ◌+◌, ◌-◌, ◌<◌, ◌≤◌, List, [], ◌∷◌, ◌++◌, length, get_or, map, take, drop, refl, ap, sym, subst, ◌∙◌, arith}
use Rattle.std.specs.List.{All, concat, filter}
use Rattle.std.proofs.lemmas.List.{length-append, length-map, length-take-le, map-append, get_or-append_right, get_or-drop, get_or_default}
use Rattle.std.proofs.lemmas.List.Elements.{filter-append}
use Rattle.places.specs.Chunks.{IsSeat, ends_of}
use Rattle.row_edits.specs.Runs.{is_outside, kept_outside, moved_down}
use Rattle.places.proofs.Parts.{concat_parts, read}

pub concat-map : (f : ℕ → ℕ) (cs : List (List ℕ)) → concat (map (map f) cs) ≡ map f (concat cs)
concat-map f [] = refl
concat-map f (c ∷ cs) = ap (λ ys. map f c ++ ys) (concat-map f cs) ∙ sym (map-append f c (concat cs))

pub ends-map : (f : ℕ → ℕ) (n : ℕ) (cs : List (List ℕ)) → ends_of n (map (map f) cs) ≡ ends_of n cs
ends-map f n [] = refl
ends-map f n (c ∷ cs) = ap (λ m. (n + m) ∷ ends_of (n + m) (map (map f) cs)) (length-map c f) ∙ ap (λ ys. (n + length c) ∷ ys) (ends-map f (n + length c) cs)

kept-append : (low count : ℕ) (xs ys : List ℕ) → kept_outside low count (xs ++ ys) ≡ kept_outside low count xs ++ kept_outside low count ys
kept-append low count xs ys =
    ap (map (moved_down low count)) (filter-append (is_outside low count) xs ys) ∙ map-append (moved_down low count) (filter (is_outside low count) xs) (filter (is_outside low count) ys)

pub concat-kept : (low count : ℕ) (cs : List (List ℕ)) → concat (map (kept_outside low count) cs) ≡ kept_outside low count (concat cs)
concat-kept low count [] = refl
concat-kept low count (c ∷ cs) = ap (λ ys. kept_outside low count c ++ ys) (concat-kept low count cs) ∙ sym (kept-append low count c (concat cs))

-- what is not yet passed
pub ahead : (f : List ℕ → List ℕ) (xs ys : List (List ℕ)) (i : ℕ) (x : List ℕ) → i < length xs → ys ≡ map f (take i xs) ++ drop i xs → x ≡ get_or ys i x → x ≡ get_or xs i []
ahead f xs ys i x l is e =
    let n : length (map f (take i xs)) ≡ i = length-map (take i xs) f ∙ length-take-le i xs (omega arith) in
    e ∙ ap (λ zs. get_or zs i x) is ∙ get_or-append_right (map f (take i xs)) (drop i xs) i i x n (omega arith)
    ∙ get_or-drop i xs (i - i) x ∙ ap (λ m. get_or xs m x) (let e : i + (i - i) ≡ i = omega arith in e) ∙ get_or_default xs i x [] l

-- what holds of all positions holds of those of a chunk
pub in_chunk : (P : ℕ → Type 0) (cs : List (List ℕ)) (k : ℕ) → k < length cs → All P (concat cs) → All P (get_or cs k [])
in_chunk P cs k l all j d m =
    let front : ℕ = length (concat (take k cs)) in
    let seat : IsSeat cs k j (front + j) = record { there = l; within = omega arith; total = refl } in
    let a = ap length (concat_parts cs k l) in
    let b = length-append (concat (take k cs)) (get_or cs k [] ++ concat (drop (k + 1) cs)) in
    let c = length-append (get_or cs k []) (concat (drop (k + 1) cs)) in
    subst P (sym (read cs k j (front + j) d seat m)) (all (front + j) d (omega arith))

pub filter_few : (p : ℕ → Bool) (xs : List ℕ) → length (filter p xs) ≤ length xs
filter_few p [] = omega arith
filter_few p (x ∷ xs) = at (p x) (filter p xs) (filter_few p xs)
  where
    at : (b : Bool) (ys : List ℕ) → length ys ≤ length xs → length (if b then x ∷ ys else ys) ≤ suc (length xs)
    at true ys le = omega arith
    at false ys le = omega arith

pub kept_few : (low count : ℕ) (xs : List ℕ) → length (kept_outside low count xs) ≤ length xs
kept_few low count xs =
    let a = length-map (filter (is_outside low count) xs) (moved_down low count) in
    let b = filter_few (is_outside low count) xs in
    omega arith

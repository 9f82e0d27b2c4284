-- Laws of lists in parts.
use Rattle.std.proofs.Common.{◌≡◌, ℕ, zero, suc, ◌+◌, ◌-◌, ◌<◌, ◌≤◌, List, [], ◌∷◌, ◌++◌, length, get_or, set, take, drop, refl, sym, ap, ◌∙◌, arith}
use Rattle.std.proofs.lemmas.List.{take-append-drop, drop-drop, drop-take, take-take, set_at, length-take-le}

-- the front of a list and some more
pub take-append-more : {X : Type 0} (xs ys : List X) (r : ℕ) → take (length xs + r) (xs ++ ys) ≡ xs ++ take r ys
take-append-more [] ys r = ap (λ n. take n ys) (let e : 0 + r ≡ r = omega arith in e)
take-append-more (x ∷ xs) ys r =
    ap (λ n. take n (x ∷ (xs ++ ys))) (let e : suc (length xs) + r ≡ suc (length xs + r) = omega arith in e) ∙ ap (λ zs. x ∷ zs) (take-append-more xs ys r)

-- a list in two parts at a later place
pub take-split : {X : Type 0} (xs : List X) (m n : ℕ) → m ≤ n → take n xs ≡ take m xs ++ take (n - m) (drop m xs)
take-split xs m n le =
    let sum : n ≡ m + (n - m) = omega arith in
    sym (take-append-drop m (take n xs))
    ∙ ap (λ ys. ys ++ drop m (take n xs)) (take-take m n xs le)
    ∙ ap (λ k. take m xs ++ drop m (take k xs)) sum
    ∙ ap (λ ys. take m xs ++ ys) (drop-take m (n - m) xs)

pub drop-split : {X : Type 0} (xs : List X) (m n : ℕ) → m ≤ n → drop m xs ≡ take (n - m) (drop m xs) ++ drop n xs
drop-split xs m n le =
    let sum : m + (n - m) ≡ n = omega arith in
    sym (take-append-drop (n - m) (drop m xs)) ∙ ap (λ ys. take (n - m) (drop m xs) ++ ys) (drop-drop (n - m) m xs ∙ ap (λ k. drop k xs) sum)

pub drop-cons-at : {X : Type 0} (xs : List X) (k : ℕ) (d : X) → k < length xs → drop k xs ≡ get_or xs k d ∷ drop (suc k) xs
drop-cons-at [] k d l = absurd (omega arith)
drop-cons-at (x ∷ xs) zero d l = refl
drop-cons-at (x ∷ xs) (suc k) d l = drop-cons-at xs k d (omega arith)

-- a list is what stands before its last item, and that item
pub last_parts : {X : Type 0} (xs : List X) (x : X) (last : ℕ) → suc last ≡ length xs → x ≡ get_or xs last x → xs ≡ take last xs ++ x ∷ []
last_parts [] x last len here = absurd (omega arith)
last_parts (y ∷ []) x zero len here = ap (λ z. z ∷ []) (sym here)
last_parts (y ∷ []) x (suc last) len here = absurd (omega arith)
last_parts (y ∷ z ∷ xs) x zero len here = absurd (omega arith)
last_parts (y ∷ z ∷ xs) x (suc last) len here = ap (λ w. y ∷ w) (last_parts (z ∷ xs) x last (omega arith) here)

pub set_last : {X : Type 0} (xs : List X) (x y : X) (last : ℕ) → suc last ≡ length xs → x ≡ get_or xs last x → set xs last y ≡ take last xs ++ y ∷ []
set_last xs x y last len here =
    ap (λ z. set z last y) (last_parts xs x last len here)
    ∙ set_at (take last xs) x [] y last (length-take-le last xs (omega arith))

-- One more is settled behind others.
use Rattle.std.proofs.Common.{◌≡◌, ℕ, zero, suc, ◌+◌, ◌<◌, ◌≤◌, List, [], ◌∷◌, ◌++◌, length, get_or, take, drop, refl, ap, sym, subst, ◌∙◌, arith}
use Rattle.std.proofs.lemmas.List.{drop-drop, length-drop, take_more, take_all}
use Rattle.mk_value.specs.declared.span.Span.{Span}
use Rattle.commit_plan.specs.Settling.{InTurn, Settles, counted}

pub counted-append : {X : Type 0} (count : X → ℕ) (xs ys : List X) → counted count (xs ++ ys) ≡ counted count xs + counted count ys
counted-append count [] ys = omega arith
counted-append count (x ∷ xs) ys = let e = counted-append count xs ys in omega (arith, e)

pub turns_long : {X : Type 0} (count : X → ℕ) (R : X → List Span → X → Type 0) (xs : List X) (spans : List Span) (ys : List X) → InTurn count R xs spans ys → length ys ≡ length xs
turns_long count R [] spans [] h = refl
turns_long count R [] spans (y ∷ ys) h = absurd h
turns_long count R (x ∷ xs) spans [] h = absurd h
turns_long count R (x ∷ xs) spans (y ∷ ys) h = let e = turns_long count R xs (drop (count x) spans) ys h.1 in omega (arith, e)

turn_behind : {X : Type 0} (count : X → ℕ) (R : X → List Span → X → Type 0) (xs ys : List X) (x y : X) (spans : List Span) → InTurn count R xs spans ys → R x (drop (counted count xs) spans) y → InTurn count R (xs ++ x ∷ []) spans (ys ++ y ∷ [])
turn_behind count R [] [] x y spans h last = (last, tt)
turn_behind count R [] (z ∷ ys) x y spans h last = absurd h
turn_behind count R (w ∷ xs) [] x y spans h last = absurd h
turn_behind count R (w ∷ xs) (z ∷ ys) x y spans h last =
    (h.0, turn_behind count R xs ys x y (drop (count w) spans) h.1 (subst (λ ss. R x ss y) (sym (drop-drop (counted count xs) (count w) spans)) last))

pub settles_none : {X : Type 0} (count : X → ℕ) (R : X → List Span → X → Type 0) (xs : List X) (spans : List Span) → Settles (counted count) (InTurn count R) (take 0 xs) spans spans []
settles_none count R xs spans = record { rest_is = refl; settled = tt }

front_within : {X : Type 0} (count : X → ℕ) (xs : List X) (k : ℕ) (x : X) → k < length xs → get_or xs k x ≡ x → counted count (take k xs) + count x ≤ counted count xs
front_within count [] k x p at = absurd (omega (arith, p))
front_within count (y ∷ ys) zero x p at = let e = ap count at in omega (arith, e)
front_within count (y ∷ ys) (suc k) x p at = let e = front_within count ys k x (omega (arith, p)) at in omega (arith, e)

-- what is left suffices for the next
pub enough_left : {X : Type 0} (count : X → ℕ) (R : X → List Span → X → Type 0) (xs ys : List X) (k : ℕ) (x : X) (spans rest : List Span) → k < length xs → get_or xs k x ≡ x → counted count xs ≤ length spans
    → Settles (counted count) (InTurn count R) (take k xs) spans rest ys → count x ≤ length rest
enough_left count R xs ys k x spans rest p at enough h =
    let e = ap length h.rest_is in
    let d = length-drop (counted count (take k xs)) spans in
    let f = front_within count xs k x p at in
    omega (arith, e, d, f, enough)

pub settles_more : {X : Type 0} (count : X → ℕ) (R : X → List Span → X → Type 0) (xs ys new : List X) (k : ℕ) (x y : X) (spans rest next : List Span) → k < length xs → get_or xs k x ≡ x
    → Settles (counted count) (InTurn count R) (take k xs) spans rest ys → Settles count R x rest next y → new ≡ ys ++ y ∷ [] → Settles (counted count) (InTurn count R) (take (k + 1) xs) spans next new
settles_more count R xs ys new k x y spans rest next p at done one is =
    let more : take (k + 1) xs ≡ take k xs ++ x ∷ [] = take_more xs k x p ∙ ap (λ z. take k xs ++ z ∷ []) at in
    let sum : counted count (take (k + 1) xs) ≡ counted count (take k xs) + count x =
    let e = counted-append count (take k xs) (x ∷ []) in ap (counted count) more ∙ omega (arith, e) in
    record {
      rest_is = one.rest_is ∙ ap (drop (count x)) done.rest_is ∙ drop-drop (count x) (counted count (take k xs)) spans ∙ ap (λ m. drop m spans) (sym sum);
      settled = subst (λ l. InTurn count R l spans new) (sym more) (subst (InTurn count R (take k xs ++ x ∷ []) spans) (sym is)
          (turn_behind count R (take k xs) ys x y spans done.settled (subst (λ ss. R x ss y) done.rest_is one.settled)));
    }

pub settles_all : {X : Type 0} (count : X → ℕ) (R : X → List Span → X → Type 0) (xs ys : List X) (k : ℕ) (spans rest : List Span) → length xs ≤ k
    → Settles (counted count) (InTurn count R) (take k xs) spans rest ys → Settles (counted count) (InTurn count R) xs spans rest ys
settles_all count R xs ys k spans rest p h = subst (λ l. Settles (counted count) (InTurn count R) l spans rest ys) (take_all k xs p) h

take-nil : {X : Type 0} (m : ℕ) → take {A = X} m [] ≡ []
take-nil zero = refl
take-nil (suc m) = refl

take-plus : {X : Type 0} (k n : ℕ) (xs : List X) → take (k + n) xs ≡ take k xs ++ take n (drop k xs)
take-plus zero n xs = ap (λ m. take m xs) (let e : zero + n ≡ n = omega arith in e)
take-plus (suc k) n [] = take-nil (suc k + n) ∙ sym (take-nil n)
take-plus (suc k) n (x ∷ xs) = ap (λ m. take m (x ∷ xs)) (let e : suc k + n ≡ suc (k + n) = omega arith in e) ∙ ap (λ ys. x ∷ ys) (take-plus k n xs)

-- some more are settled behind others
turns_behind : {X : Type 0} (count : X → ℕ) (R : X → List Span → X → Type 0) (xs more ys mores : List X) (spans : List Span) → InTurn count R xs spans ys → InTurn count R more (drop (counted count xs) spans) mores → InTurn count R (xs ++ more) spans (ys ++ mores)
turns_behind count R [] more [] mores spans h last = last
turns_behind count R [] more (z ∷ ys) mores spans h last = absurd h
turns_behind count R (w ∷ xs) more [] mores spans h last = absurd h
turns_behind count R (w ∷ xs) more (z ∷ ys) mores spans h last =
    (h.0, turns_behind count R xs more ys mores (drop (count w) spans) h.1 (subst (λ ss. InTurn count R more ss mores) (sym (drop-drop (counted count xs) (count w) spans)) last))

pub settles_several : {X : Type 0} (count : X → ℕ) (R : X → List Span → X → Type 0) (xs ys mores new : List X) (k n : ℕ) (spans rest next : List Span)
    → Settles (counted count) (InTurn count R) (take k xs) spans rest ys → Settles (counted count) (InTurn count R) (take n (drop k xs)) rest next mores → new ≡ ys ++ mores → Settles (counted count) (InTurn count R) (take (k + n) xs) spans next new
settles_several count R xs ys mores new k n spans rest next done more is =
    let both : take (k + n) xs ≡ take k xs ++ take n (drop k xs) = take-plus k n xs in
    let sum : counted count (take (k + n) xs) ≡ counted count (take k xs) + counted count (take n (drop k xs)) = ap (counted count) both ∙ counted-append count (take k xs) (take n (drop k xs)) in
    record {
      rest_is = more.rest_is ∙ ap (drop (counted count (take n (drop k xs)))) done.rest_is ∙ drop-drop (counted count (take n (drop k xs))) (counted count (take k xs)) spans ∙ ap (λ m. drop m spans) (sym sum);
      settled = subst (λ l. InTurn count R l spans new) (sym both) (subst (InTurn count R (take k xs ++ take n (drop k xs)) spans) (sym is)
          (turns_behind count R (take k xs) (take n (drop k xs)) ys mores spans done.settled (subst (λ ss. InTurn count R (take n (drop k xs)) ss mores) done.rest_is more.settled)));
    }

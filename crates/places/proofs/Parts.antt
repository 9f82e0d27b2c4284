-- Lists in chunks: one chunk, what stands before it, and what behind.
use Rattle.std.proofs.Common.{◌≡◌, ℕ, ◌+◌, ◌-◌, ◌<◌, ◌≤◌, List, [], ◌∷◌, ◌++◌, length, get_or, set, take, drop, refl, ap, sym, ◌∙◌, arith}
use Rattle.std.specs.List.{concat, insert, remove}
use Rattle.std.proofs.lemmas.List.{take-append-drop, drop_more, set_at, length-take-le, append_assoc, get_or-append-add, get_or_append_left}
use Rattle.std.proofs.lemmas.List.Edits.{insert-append_left, insert-append_right, remove-append_left, remove-append_right}
use Rattle.std.proofs.lemmas.List.Folds.{concat-append}
use Rattle.places.specs.Chunks.{IsSeat, cut}

pub parts : (cs : List (List ℕ)) (k : ℕ) → k < length cs → cs ≡ take k cs ++ get_or cs k [] ∷ drop (k + 1) cs
parts cs k l = sym (take-append-drop k cs) ∙ ap (λ ys. take k cs ++ ys) (drop_more cs k [] l)

pub concat_parts : (cs : List (List ℕ)) (k : ℕ) → k < length cs → concat cs ≡ concat (take k cs) ++ (get_or cs k [] ++ concat (drop (k + 1) cs))
concat_parts cs k l = ap concat (parts cs k l) ∙ concat-append (take k cs) (get_or cs k [] ∷ drop (k + 1) cs)

pub set_parts : (cs : List (List ℕ)) (k : ℕ) (x : List ℕ) → k < length cs → set cs k x ≡ take k cs ++ x ∷ drop (k + 1) cs
set_parts cs k x l =
    ap (λ ys. set ys k x) (parts cs k l) ∙ set_at (take k cs) (get_or cs k []) (drop (k + 1) cs) x k (length-take-le k cs (omega arith))

pub concat_set : (cs : List (List ℕ)) (k : ℕ) (x : List ℕ) → k < length cs → concat (set cs k x) ≡ concat (take k cs) ++ (x ++ concat (drop (k + 1) cs))
concat_set cs k x l = ap concat (set_parts cs k x l) ∙ concat-append (take k cs) (x ∷ drop (k + 1) cs)

-- a position comes in at a seat
pub inserted : (cs : List (List ℕ)) (k o at p : ℕ) → IsSeat cs k o at → concat (set cs k (insert (get_or cs k []) o p)) ≡ insert (concat cs) at p
inserted cs k o at p h =
    let front : List ℕ = concat (take k cs) in
    let c : List ℕ = get_or cs k [] in
    let back : List ℕ = concat (drop (k + 1) cs) in
    let total = h.total in
    let same : at - length front ≡ o = omega arith in
    let le : length front ≤ at = omega arith in
    concat_set cs k (insert c o p) h.there
    ∙ ap (λ ys. front ++ ys) (sym (insert-append_left c back o p h.within))
    ∙ ap (λ n. front ++ insert (c ++ back) n p) (sym same)
    ∙ sym (insert-append_right front (c ++ back) (length front) at p refl le)
    ∙ ap (λ ys. insert ys at p) (sym (concat_parts cs k h.there))

-- the position at a seat goes
pub removed : (cs : List (List ℕ)) (k o at : ℕ) → IsSeat cs k o at → o < length (get_or cs k []) → concat (set cs k (remove (get_or cs k []) o)) ≡ remove (concat cs) at
removed cs k o at h l =
    let front : List ℕ = concat (take k cs) in
    let c : List ℕ = get_or cs k [] in
    let back : List ℕ = concat (drop (k + 1) cs) in
    let total = h.total in
    let same : at - length front ≡ o = omega arith in
    let le : length front ≤ at = omega arith in
    concat_set cs k (remove c o) h.there
    ∙ ap (λ ys. front ++ ys) (sym (remove-append_left c back o l))
    ∙ ap (λ n. front ++ remove (c ++ back) n) (sym same)
    ∙ sym (remove-append_right front (c ++ back) (length front) at refl le)
    ∙ ap (λ ys. remove ys at) (sym (concat_parts cs k h.there))

-- the position at a seat
pub read : (cs : List (List ℕ)) (k o at d : ℕ) → IsSeat cs k o at → o < length (get_or cs k []) → get_or (get_or cs k []) o d ≡ get_or (concat cs) at d
read cs k o at d h l =
    let front : List ℕ = concat (take k cs) in
    let c : List ℕ = get_or cs k [] in
    let back : List ℕ = concat (drop (k + 1) cs) in
    sym (ap (λ n. get_or (concat cs) n d) (sym h.total) ∙ ap (λ ys. get_or ys (length front + o) d) (concat_parts cs k h.there) ∙ get_or-append-add front (c ++ back) o d ∙ get_or_append_left c back d o l)

-- a chunk in two
pub concat_cut : (cs : List (List ℕ)) (k o : ℕ) → k < length cs → concat (cut k o cs) ≡ concat cs
concat_cut cs k o l =
    let c : List ℕ = get_or cs k [] in
    let back : List ℕ = concat (drop (k + 1) cs) in
    concat-append (take k cs) (take o c ∷ drop o c ∷ drop (k + 1) cs)
    ∙ ap (λ ys. concat (take k cs) ++ ys) (sym (append_assoc (take o c) (drop o c) back) ∙ ap (λ ys. ys ++ back) (take-append-drop o c))
    ∙ sym (concat_parts cs k l)

-- Laws of chunks under construction.
use Rattle.std.proofs.Common.{◌≡◌, ℕ, zero, suc, ◌+◌, ◌*◌, ◌-◌, ◌<◌, ◌≤◌, List, [], ◌∷◌, ◌++◌, length, get_or, take, drop, replicate, sym, ap, ◌∙◌, arith}
use Rattle.std.proofs.lemmas.List.{append_assoc, append-nil, replicate-append-replicate, take_more, get_or-drop, length-drop}
use Rattle.segments.specs.Joined.{joined}
use Rattle.segments.proofs.Joined.{joined-append}

pub joined-copies : (n : ℕ) (c : List (List ℕ)) (m : ℕ) (v : List ℕ) → c ≡ replicate m v → joined (replicate n c) ≡ replicate (n * m) v
joined-copies zero c m v is = ap (λ k. replicate k v) (let e : 0 ≡ 0 * m = omega arith in e)
joined-copies (suc n) c m v is =
    ap (λ z. z ++ joined (replicate n c)) is
    ∙ ap (λ z. replicate m v ++ z) (joined-copies n c m v is)
    ∙ replicate-append-replicate m (n * m) v
    ∙ ap (λ k. replicate k v) (let e : m + n * m ≡ suc n * m = omega arith in e)

-- one value more of those from a place on
pub part_more : (xs : List (List ℕ)) (from at : ℕ) → from ≤ at → at < length xs → take (at + 1 - from) (drop from xs) ≡ take (at - from) (drop from xs) ++ replicate 1 (get_or xs at [])
part_more xs from at order l =
    let n : ℕ = at - from in
    let next : at + 1 - from ≡ n + 1 = omega arith in
    let there : from + n ≡ at = omega arith in
    ap (λ k. take k (drop from xs)) next
    ∙ take_more (drop from xs) n [] (omega (arith, length-drop from xs))
    ∙ ap (λ v. take n (drop from xs) ++ v ∷ []) (get_or-drop from xs n [] ∙ ap (λ i. get_or xs i []) there)

-- whole chunks of copies are added
pub whole_added : (done new : List (List (List ℕ))) (last whole made : List (List ℕ)) (n : ℕ) (v : List ℕ) → last ≡ [] → whole ≡ [] ++ replicate 512 v → made ≡ whole → new ≡ done ++ replicate n made → joined new ++ last ≡ (joined done ++ last) ++ replicate (n * 512) v
whole_added done new last whole made n v none copies is added =
    ap (λ z. joined new ++ z) none
    ∙ append-nil (joined new)
    ∙ ap joined added
    ∙ joined-append done (replicate n made)
    ∙ ap (λ z. joined done ++ z) (joined-copies n made 512 v (is ∙ copies))
    ∙ ap (λ z. z ++ replicate (n * 512) v) (sym (append-nil (joined done)) ∙ ap (λ z. joined done ++ z) (sym none))

-- copies are added in three steps
pub copies_all : (done new : List (List (List ℕ))) (last first middle rest final : List (List ℕ)) (a b c n : ℕ) (v : List ℕ) → first ≡ last ++ replicate a v → middle ≡ joined done ++ first → joined new ++ rest ≡ middle ++ replicate b v → final ≡ rest ++ replicate c v → a + b + c ≡ n → joined new ++ final ≡ (joined done ++ last) ++ replicate n v
copies_all done new last first middle rest final a b c n v one two three four sum =
    let va : List (List ℕ) = replicate a v in
    let vb : List (List ℕ) = replicate b v in
    let vc : List (List ℕ) = replicate c v in
    let whole : List (List ℕ) = joined done ++ last in
    let start : middle ≡ whole ++ va = two ∙ ap (λ z. joined done ++ z) one ∙ sym (append_assoc (joined done) last va) in
    ap (λ z. joined new ++ z) four
    ∙ sym (append_assoc (joined new) rest vc)
    ∙ ap (λ z. z ++ vc) (three ∙ ap (λ z. z ++ vb) start ∙ append_assoc whole va vb ∙ ap (λ z. whole ++ z) (replicate-append-replicate a b v))
    ∙ append_assoc whole (replicate (a + b) v) vc
    ∙ ap (λ z. whole ++ z) (replicate-append-replicate (a + b) c v ∙ ap (λ k. replicate k v) sum)

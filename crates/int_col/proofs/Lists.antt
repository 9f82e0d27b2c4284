-- Laws of values that are copied, and of copies that others are written over.
use Rattle.std.proofs.Common.{◌≡◌, ℕ, ◌+◌, ◌-◌, ◌≤◌, List, ◌++◌, length, take, drop, replicate, sym, ap, ◌∙◌, arith}
use Rattle.std.proofs.lemmas.List.{append_assoc, drop-drop, take_at, length-take-le, length-drop, take-replicate, drop-replicate}
use Rattle.segments.proofs.Lists.{take-append-more, take-split}

-- what a copy has reached: `done` values of `from` on, and r more
pub copied_more : {X : Type 0} (whole xs ys zs rest : List X) (from done r : ℕ) → done ≤ length xs → from + done + r ≤ length whole → ys ≡ take r (drop (from + done) whole) ++ rest → take done xs ≡ take done (drop from whole) → take (done + r) (take done xs ++ (ys ++ zs)) ≡ take (done + r) (drop from whole)
copied_more {X} whole xs ys zs rest from done r in_range within new before =
    let front : length (take done xs) ≡ done = length-take-le done xs in_range in
    let part : List X = take r (drop (from + done) whole) in
    let enough : length part ≡ r = length-take-le r (drop (from + done) whole) (omega (arith, length-drop (from + done) whole)) in
    let there : take r (ys ++ zs) ≡ part =
    ap (λ l. take r (l ++ zs)) new ∙ ap (take r) (append_assoc part rest zs) ∙ take_at part (rest ++ zs) r enough in
    let step : done + r - done ≡ r = omega arith in
    ap (λ n. take (n + r) (take done xs ++ (ys ++ zs))) (sym front)
    ∙ take-append-more (take done xs) (ys ++ zs) r
    ∙ ap (λ l. take done xs ++ l) there
    ∙ ap (λ l. l ++ part) before
    ∙ ap (λ l. take done (drop from whole) ++ take r l) (sym (drop-drop done from whole))
    ∙ ap (λ n. take done (drop from whole) ++ take n (drop done (drop from whole))) (sym step)
    ∙ sym (take-split (drop from whole) done (done + r) (omega arith))

-- copies of v with other values written over their front
pub around : {X : Type 0} (front copies : List X) (b n size : ℕ) (v : X) → copies ≡ replicate size v → b + n ≤ size → length front ≡ b → take (b + n) (front ++ drop b copies) ≡ front ++ replicate n v
around front copies b n size v are within len =
    let rest : drop b copies ≡ replicate (size - b) v = ap (drop b) are ∙ drop-replicate b size v in
    ap (λ k. take (k + n) (front ++ drop b copies)) (sym len)
    ∙ take-append-more front (drop b copies) n
    ∙ ap (λ l. front ++ take n l) rest
    ∙ ap (λ l. front ++ l) (take-replicate n (size - b) v (omega arith))

-- Bytes read from a piece at hand are those of the file.
use Rattle.std.proofs.Common.{◌≡◌, sym, ◌∙◌, ap, ℕ, ◌+◌, ◌-◌, ◌≤◌, List, length, take, drop, arith}
use Rattle.std.proofs.lemmas.List.{drop-take, drop-drop, take-take}
use Rattle.read_ahead.specs.Pieces.{Holds}

-- the bytes from a place k of a front on, as far as n
in_front : (shown : List ℕ) (count k n : ℕ) → k + n ≤ count → take n (drop k (take count shown)) ≡ take n (drop k shown)
in_front shown count k n order =
    sym (drop-take k n (take count shown))
    ∙ ap (drop k) (take-take (k + n) count shown order)
    ∙ drop-take k n shown

-- what is at hand from a place on is what the file has there
pub read_is : (known : Type 0) (file piece : List ℕ) (start at n : ℕ) → Holds known file start piece → known → start ≤ at → at + n ≤ start + length piece
    → take n (drop (at - start) piece) ≡ take n (drop at file)
read_is known file piece start at n holds k low high =
    let within : at - start + n ≤ length piece = omega (arith, low, high) in
    let place : start + (at - start) ≡ at = omega (arith, low) in
    ap (λ (l : List ℕ). take n (drop (at - start) l)) (holds.bytes k)
    ∙ in_front (drop start file) (length piece) (at - start) n within
    ∙ ap (take n) (drop-drop (at - start) start file ∙ ap (λ (p : ℕ). drop p file) place)

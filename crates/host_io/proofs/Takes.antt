-- How many bytes a take gives.
use Rattle.std.proofs.Common.{◌≡◌, ℕ, ◌<◌, ◌≤◌, List, [], ◌++◌, length, take, drop, min, sym, ◌∙◌, ap, arith, take-append-drop}
use Rattle.std.proofs.lemmas.List.{take_at, length-take-le, nil_from_length}
use Rattle.std.proofs.lemmas.Bool.Decides.{nat_tests}
use Rattle.host_io.specs.Memory.{bounded}

pub bounded-le : (most count : ℕ) → bounded most count ≤ count
bounded-le most count = grind (arith, nat_tests)

-- a bound is none or at least one
pub bounded_none : (most count : ℕ) → bounded most count ≡ 0 → count ≡ 0
bounded_none most count none = grind (arith, nat_tests)

-- the front of what is left comes, and the rest stays
pub front_comes : (input into piece : List ℕ) (n : ℕ) → n ≤ length input → piece ≡ take n input ++ drop n into → input ≡ take n piece ++ drop n input
front_comes input into piece n within is =
    let front : take n piece ≡ take n input = ap (λ (l : List ℕ). take n l) is ∙ take_at (take n input) (drop n into) n (length-take-le n input within) in
    sym (take-append-drop n input) ∙ ap (λ (l : List ℕ). l ++ drop n input) (sym front)

-- none comes into a piece with room only where none is left
pub none_left : (most room : ℕ) (input : List ℕ) (n : ℕ) → n ≡ bounded most (min room (length input)) → n ≡ 0 → 0 < room → input ≡ []
none_left most room input n is none room_is = nil_from_length input (let least = bounded_none most (min room (length input)) (sym is ∙ none) in omega arith)

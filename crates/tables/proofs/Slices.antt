-- What is read in some of the rows of a table.
use Rattle.std.proofs.Common.{◌≡◌, ℕ, ◌+◌, ◌-◌, ◌<◌, ◌≤◌, pos, List, [], length, get_or, take, drop, map, refl, ap, sym, ◌∙◌, arith}
use Rattle.std.proofs.lemmas.List.{get_or-take, get_or-drop, drop-drop, take-map, drop-map, take-take, drop-take}
use Rattle.mk_value.specs.Data.{Datum, cell, integer}
use Rattle.tables.specs.Slices.{sliced}

pub sliced_at : {X : Type 0} (from count i : ℕ) (xs : List X) (d : X) → i < count → get_or (sliced from count xs) i d ≡ get_or xs (from + i) d
sliced_at from count i xs d p = get_or-take count (drop from xs) i d p ∙ get_or-drop from xs i d

pub cell_sliced : (from count i k : ℕ) (rows : List (List Datum)) → i < count → cell (sliced from count rows) i k ≡ cell rows (from + i) k
cell_sliced from count i k rows p = ap (λ (r : List Datum). get_or r k (integer (pos 0))) (sliced_at from count i rows [] p)

-- some of them again
pub sliced_again : {X : Type 0} (from count at n : ℕ) (xs : List X) → at + n ≤ count → take n (drop at (sliced from count xs)) ≡ take n (drop (from + at) xs)
sliced_again from count at n xs p =
    let split : at + (count - at) ≡ count = omega arith in
    ap (λ m. take n (drop at (take m (drop from xs)))) (sym split)
    ∙ ap (take n) (drop-take at (count - at) (drop from xs))
    ∙ take-take n (count - at) (drop at (drop from xs)) (omega arith)
    ∙ ap (take n) (drop-drop at from xs)

pub map_sliced : {X Y : Type 0} (f : X → Y) (from count : ℕ) (xs : List X) → map f (sliced from count xs) ≡ sliced from count (map f xs)
map_sliced f from count xs = sym (take-map f count (drop from xs)) ∙ ap (take count) (sym (drop-map f from xs))

-- Positions when rows come in side by side, or go side by side.
use Rattle.std.specs.Prelude.{ℕ, zero, suc, ◌+◌, ◌-◌, nat_lt, nat_le, if◌then◌else◌, Bool, true, List, [], ◌∷◌, ◌++◌, map, filter, take, drop, replicate, Option, Some, None}

-- so many numbers from the first on
abbrev pub run : ℕ → ℕ → List ℕ
run first zero = []
run first (suc n) = first ∷ run (first + 1) n

-- the place that an element has once so many others have come in at a place
abbrev pub moved_up : ℕ → ℕ → ℕ → ℕ
moved_up at count k = if nat_lt k at then k else k + count

-- a place is none of so many from one on
abbrev pub is_outside : ℕ → ℕ → ℕ → Bool
is_outside at count k = if nat_lt k at then true else nat_le (at + count) k

-- the place that an element has once so many others from a place on are out
abbrev pub moved_down : ℕ → ℕ → ℕ → ℕ
moved_down at count k = if nat_lt k at then k else k - count

-- the positions that are left then, by their new numbers
abbrev pub kept_outside : ℕ → ℕ → List ℕ → List ℕ
kept_outside at count kept = map (moved_down at count) (filter (is_outside at count) kept)

-- a list into which copies of an element come before a place, if one is named
abbrev pub spread : {X : Type 0} → Option ℕ → ℕ → X → List X → List X
spread None count x xs = xs
spread (Some p) count x xs = take p xs ++ (replicate count x ++ drop p xs)

-- kept positions once a run of numbers, so many from one on, stands before a place, if one is named
abbrev pub with_run : Option ℕ → ℕ → ℕ → List ℕ → List ℕ
with_run None first count kept = kept
with_run (Some p) first count kept = take p kept ++ (run first count ++ drop p kept)

-- A list that is kept in parts, one for each segment.
use Rattle.std.specs.Prelude.{ℕ, List, length, map}
use Rattle.std.specs.List.{flat_map}

-- the items of all parts, one after another
abbrev pub joined : {X : Type 0} → List (List X) → List X
joined parts = flat_map (λ part. part) parts

-- how many items each part has
abbrev pub counts_of : {X : Type 0} → List (List X) → List ℕ
counts_of parts = map length parts

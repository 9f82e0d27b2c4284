-- Marks at places of a list.
use Rattle.std.specs.Prelude.{ℕ, Bool, List, [], ◌∷◌, set}

-- the marks with this one at each of the places
abbrev pub marked : List ℕ → Bool → List Bool → List Bool
marked [] mark marks = marks
marked (place ∷ places) mark marks = marked places mark (set marks place mark)

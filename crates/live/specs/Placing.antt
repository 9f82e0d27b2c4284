-- Places in a list of which an element goes, or into which one comes.
use Rattle.std.specs.Prelude.{ℕ, ◌-◌, ◌+◌, nat_lt, if◌then◌else◌, List, remove, Option, Some, None}

-- the place that an element has once the one at p is out: the later ones move down
abbrev pub closed : ℕ → ℕ → ℕ
closed p k = if nat_lt p k then k - 1 else k

-- the place that an element has once another has come in at p: those from there on have moved up
abbrev pub opened : ℕ → ℕ → ℕ
opened p k = if nat_lt k p then k else k + 1

-- the list without the element at a place, if one is named
abbrev pub without : {X : Type 0} → Option ℕ → List X → List X
without None xs = xs
without (Some p) xs = remove xs p

-- the place that an element has once the one at a place is out, or once one has come in there, if a place is named
abbrev pub closed_by : Option ℕ → ℕ → ℕ
closed_by None k = k
closed_by (Some p) k = closed p k

abbrev pub opened_by : Option ℕ → ℕ → ℕ
opened_by None k = k
opened_by (Some p) k = opened p k

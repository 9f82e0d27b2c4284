-- A list of values that grows at its end, and a column that is ready for one more value.
use Rattle.std.specs.Prelude.{ℕ, ◌-◌, ◌<◌, List, [], length, take, slice_index_or}

-- a list without its last item
abbrev pub front : {X : Type 0} → List X → List X
front xs = take (length xs - 1) xs

-- the last chunk has some value
abbrev pub EndsWithSome : List (List (List ℕ)) → Type 0
EndsWithSome chunks = 0 < length (slice_index_or chunks (length chunks - 1) [])

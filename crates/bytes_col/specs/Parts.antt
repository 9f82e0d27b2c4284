-- Chunks under construction.
use Rattle.std.specs.Prelude.{ℕ, List, ◌++◌}
use Rattle.bytes_col.specs.declared.parts.Parts.{Parts}
use Rattle.segments.specs.Joined.{joined}

-- the values added so far
abbrev pub added : Parts → List (List ℕ)
added p = joined p.done ++ p.last

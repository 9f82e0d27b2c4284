use Rattle.std.proofs.Common.{◌≤◌, ◌-◌, List, length, drop}
use Rattle.tokens.specs.Cutting.{Piece}
use Rattle.tokens.proofs.Chains.{Walks}
use Rattle.tokens.proofs.cutting.some_cutting.Given as goal

abbrev pub invariant-pieces : goal.invariant-pieces
invariant-pieces l = (l.end ≤ length l.bytes) × (pieces : List Piece) × Walks 0 l.bytes pieces l.end (drop l.end l.bytes)

abbrev pub decreases-pieces : goal.decreases-pieces
decreases-pieces l = length l.bytes - l.end

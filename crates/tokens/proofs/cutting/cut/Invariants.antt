use Rattle.std.proofs.Common.{◌≤◌, ◌-◌, length, drop}
use Rattle.tokens.proofs.Chains.{Walks}
use Rattle.tokens.proofs.cutting.cut.Given as goal

abbrev pub invariant-pieces : goal.invariant-pieces
invariant-pieces l = record {
  within : l.end ≤ length l.bytes;
  walked : Walks 0 l.bytes l.pieces l.end (drop l.end l.bytes);
}

abbrev pub decreases-pieces : goal.decreases-pieces
decreases-pieces l = length l.bytes - l.end

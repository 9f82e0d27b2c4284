use Rattle.std.proofs.Common.{◌≡◌, take}
use Rattle.live_counts.specs.Counting.{keys_in}
use Rattle.live_counts.proofs.making.keys_of.Given as goal

abbrev pub invariant-loop-col : goal.invariant-loop-col
invariant-loop-col l = l.keys ≡ keys_in l.schema (take l.col-index l.columns)

use Rattle.std.proofs.Common.{◌≡◌, ◌-◌, ◌%◌, ◌<◌, ◌≤◌, length, take}
use Rattle.int_col.specs.Cuts.{full_cuts}
use Rattle.segments.specs.Joined.{joined, counts_of}
use Rattle.int_col.proofs.cut.cut.Given as goal

abbrev pub invariant-loop-from : goal.invariant-loop-from
invariant-loop-from l = record {
  in_range : l.from ≤ length l.values;
  values : joined l.segments.items ≡ take l.from l.values;
  cuts : counts_of l.segments.items ≡ full_cuts l.from;
  whole : l.from < length l.values → l.from % 2048 ≡ 0;
}

abbrev pub decreases-loop-from : goal.decreases-loop-from
decreases-loop-from l = length l.values - l.from

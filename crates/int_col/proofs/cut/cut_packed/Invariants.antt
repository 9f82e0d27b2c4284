use Rattle.std.proofs.Common.{◌≡◌, ◌-◌, ◌%◌, ◌<◌, ◌≤◌, take}
use Rattle.bit_pack.specs.Packed.{values_from}
use Rattle.int_col.specs.Cuts.{full_cuts}
use Rattle.segments.specs.Joined.{joined, counts_of}
use Rattle.int_col.proofs.cut.cut_packed.Given as goal

abbrev pub invariant-loop-from : goal.invariant-loop-from
invariant-loop-from l = record {
  in_range : l.from ≤ l.count;
  values : joined l.segments.items ≡ take l.from (values_from l.width l.bytes 0 l.count);
  cuts : counts_of l.segments.items ≡ full_cuts l.from;
  whole : l.from < l.count → l.from % 2048 ≡ 0;
}

abbrev pub decreases-loop-from : goal.decreases-loop-from
decreases-loop-from l = l.count - l.from

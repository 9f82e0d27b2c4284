use Rattle.std.proofs.Common.{◌≡◌, ◌-◌, ◌++◌, ◌≤◌, take, drop}
use Rattle.bytes_col.specs.Parts.{added}
use Rattle.segments.specs.Joined.{joined}
use Rattle.bytes_col.proofs.spine.Spine.add_to.Given as goal

abbrev pub invariant-loop-at : goal.invariant-loop-at
invariant-loop-at l = record {
  order : l.from ≤ l.at;
  within : l.at ≤ l.to;
  values : added l.parts ≡ added l.initial.parts ++ take (l.at - l.from) (drop l.from (joined l.self));
}

abbrev pub decreases-loop-at : goal.decreases-loop-at
decreases-loop-at l = l.to - l.at

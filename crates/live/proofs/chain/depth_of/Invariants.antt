use Rattle.std.proofs.Common.{◌≡◌, ◌+◌, ◌<◌, ◌≤◌, length}
use Rattle.std.specs.Option.{ForSome}
use Rattle.live.specs.Chains.{depth}
use Rattle.live.proofs.Seeing.{height}
use Rattle.live.proofs.chain.depth_of.Given as goal

abbrev pub invariant-loop-over : goal.invariant-loop-over
invariant-loop-over l = record {
  there : ForSome l.over (λ w. w < length l.watches);
  few : l.count + height l.over ≤ length l.watches;
  counted : l.count + depth l.watches l.over ≡ depth l.watches l.fn.source;
}

abbrev pub decreases-loop-over : goal.decreases-loop-over
decreases-loop-over l = height l.over

use Rattle.std.proofs.Common.{◌≡◌, ◌<◌, length, get_or}
use Rattle.std.specs.Option.{ForSome}
use Rattle.live.specs.Chains.{place_in_root}
use Rattle.live.specs.States.{WatchState}
use Rattle.live.proofs.Seeing.{height}
use Rattle.live.proofs.chain.root_place.Given as goal

abbrev pub invariant-loop-over : goal.invariant-loop-over
invariant-loop-over l = record {
  there : ForSome l.over (λ w. w < length l.watches);
  row_in : ForSome l.over (λ w. (d : WatchState) → l.at < length (get_or l.watches w d).kept);
  place : place_in_root l.watches l.over l.at ≡ place_in_root l.watches l.fn.over l.row;
}

abbrev pub decreases-loop-over : goal.decreases-loop-over
decreases-loop-over l = height l.over

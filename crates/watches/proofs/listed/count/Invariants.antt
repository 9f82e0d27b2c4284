use Rattle.std.proofs.Common.{◌≡◌, length, take}
use Rattle.std.specs.List.{sum_by}
use Rattle.watches.specs.Keeping.{Kept, followed_of}
use Rattle.watches.proofs.listed.count.Given as goal

abbrev pub invariant-loop-watches : goal.invariant-loop-watches
invariant-loop-watches l = l.count ≡ sum_by (λ (k : Kept). length (followed_of k).watches) (take l.watches-index l.list)

use Rattle.std.proofs.Common.{◌≡◌, ◌<◌, ◌-◌, ℕ, true, length}
use Rattle.live.specs.Numbers.{is_taken}
use Rattle.live.proofs.listed.free_number.Given as goal

abbrev pub invariant-loop-number : goal.invariant-loop-number
invariant-loop-number l = (n : ℕ) → n < l.number → is_taken l.watches n ≡ true

abbrev pub decreases-loop-number : goal.decreases-loop-number
decreases-loop-number l = length l.watches - l.number

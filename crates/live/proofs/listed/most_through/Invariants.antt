use Rattle.std.proofs.Common.{◌≡◌, ◌<◌, ◌≤◌, ℕ, length, get_or, Some}
use Rattle.live.specs.States.{WatchState}
use Rattle.live.proofs.listed.most_through.Given as goal

abbrev pub invariant-loop-i : goal.invariant-loop-i
invariant-loop-i l = (k s : ℕ) (d e : WatchState) → k < l.i → (get_or l.watches k d).source ≡ Some s → length (get_or l.watches s e).kept ≤ l.most

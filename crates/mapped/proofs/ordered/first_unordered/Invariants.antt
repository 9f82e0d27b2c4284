use Rattle.std.proofs.Common.{◌≡◌, ◌<◌, ℕ, false}
use Rattle.mapped.specs.Keys.{keys_of}
use Rattle.mapped.specs.Refusals.{is_unordered}
use Rattle.mapped.proofs.ordered.first_unordered.Given as goal

abbrev pub invariant-loop-row : goal.invariant-loop-row
invariant-loop-row g l = (i : ℕ) → i < l.row → is_unordered (keys_of l.keys (g.T.TableRead.rows l.rows)) i ≡ false

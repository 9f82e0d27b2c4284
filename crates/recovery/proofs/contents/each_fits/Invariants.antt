use Rattle.std.proofs.Common.{ℕ, ◌<◌, [], get_or}
use Rattle.recovery.specs.Contents.{FitsContent}
use Rattle.recovery.proofs.contents.each_fits.Given as goal

abbrev pub invariant-loop-row : goal.invariant-loop-row
invariant-loop-row l = (k : ℕ) → k < l.row → FitsContent l.content (get_or l.column.values k [])

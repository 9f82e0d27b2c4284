use Rattle.std.proofs.Common.{◌≡◌, map}
use Rattle.relations.specs.Positions.{numbers}
use Rattle.kept_counts.specs.Following.{counted_at}
use Rattle.kept_counts.proofs.showing.counted_rows.Given as goal

abbrev pub invariant-loop-key : goal.invariant-loop-key
invariant-loop-key l = l.made ≡ map (counted_at l.columns l.rows.rows l.counts) (numbers l.key)

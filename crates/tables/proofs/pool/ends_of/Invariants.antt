use Rattle.tables.proofs.Gathered.{AreEndsSoFar}
use Rattle.tables.proofs.pool.ends_of.Given as goal

abbrev pub invariant-loop-table : goal.invariant-loop-table
invariant-loop-table l = AreEndsSoFar l.tables l.table-index l.ends.items l.end

use Rattle.std.proofs.Common.{length}
use Rattle.computing.proofs.names.+computed_table.Given as goal

abbrev pub decreases-computed_table : goal.decreases-computed_table
decreases-computed_table g l = length l.watches.now

use Rattle.tables.specs.Pools.{homed_table}
use Rattle.tables.proofs.Homed.{AreHomed}
use Rattle.tables.proofs.pool.homed_cols.Given as goal

-- the columns so far
abbrev pub invariant-loop-at : goal.invariant-loop-at
invariant-loop-at l = AreHomed (homed_table l.fn.schema l.fn.rows l.blocks) l.at l.cols l.next

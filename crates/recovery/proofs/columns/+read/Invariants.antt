use Rattle.std.proofs.Common.{◌+◌, map}
use Rattle.host_io.specs.Calls.{CountsFaults, Looks}
use Rattle.dir_codec.specs.DirCode.{columns_weight, entry_weight, tables_weight}
use Rattle.dir_codec.specs.Values.{body_of, entry_of}
use Rattle.recovery.proofs.ReadSoFar.{AreBodiesSoFar, AreColumnsSoFar}
use Rattle.recovery.proofs.columns.+read.Given as goal

abbrev pub decreases-read_column : goal.decreases-read_column
decreases-read_column g l = entry_weight (entry_of l.column.now)

abbrev pub decreases-read_columns : goal.decreases-read_columns
decreases-read_columns g l = columns_weight l.columns.now

abbrev pub decreases-read_bodies : goal.decreases-read_bodies
decreases-read_bodies g l = tables_weight l.bodies.now + 1

abbrev pub decreases-read_each : goal.decreases-read_each
decreases-read_each g l = tables_weight l.bodies.now

abbrev pub decreases-read_table : goal.decreases-read_table
decreases-read_table g l = columns_weight l.body.now.cols + 1

abbrev pub invariant-read_columns-loop-k : goal.invariant-read_columns-loop-k
invariant-read_columns-loop-k g l = record {
  counts : CountsFaults ⊥ (g.D.Disk.outside l.fn.disk) (g.D.Disk.outside l.disk);
  same : g.D.Disk.tells → Looks (g.D.Disk.outside l.fn.disk) (g.D.Disk.outside l.disk);
  so : AreColumnsSoFar g.D.Disk.tells (g.D.Disk.outside l.fn.disk).now.disk.seen l.rows l.at l.props (map entry_of l.items) l.k l.cols l.next;
}

abbrev pub invariant-read_each-loop-body : goal.invariant-read_each-loop-body
invariant-read_each-loop-body g l = record {
  counts : CountsFaults ⊥ (g.D.Disk.outside l.fn.disk) (g.D.Disk.outside l.disk);
  same : g.D.Disk.tells → Looks (g.D.Disk.outside l.fn.disk) (g.D.Disk.outside l.disk);
  so : AreBodiesSoFar g.D.Disk.tells (g.D.Disk.outside l.fn.disk).now.disk.seen l.at l.schema (map body_of l.body-items) l.body-index l.tables l.next;
}

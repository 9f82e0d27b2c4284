use Rattle.std.proofs.Common.{map}
use Rattle.host_io.specs.Calls.{CountsFaults, Looks}
use Rattle.dir_codec.specs.Values.{view_of}
use Rattle.recovery.proofs.ViewsSoFar.{AreViewsSoFar}
use Rattle.recovery.proofs.views.read_views.Given as goal

abbrev pub invariant-loop-view : goal.invariant-loop-view
invariant-loop-view g l = record {
  counts : CountsFaults ⊥ (g.D.Disk.outside l.fn.disk) (g.D.Disk.outside l.disk);
  same : g.D.Disk.tells → Looks (g.D.Disk.outside l.fn.disk) (g.D.Disk.outside l.disk);
  so : AreViewsSoFar g.D.Disk.tells (g.D.Disk.outside l.fn.disk).now.disk.seen (map view_of l.views) l.view-index l.names l.tables.items l.at;
}

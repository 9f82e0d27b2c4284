use Rattle.std.proofs.Common.{◌≡◌, ◌-◌, ◌^◌, ◌<◌}
use Rattle.host_io.specs.Calls.{CountsFaults, Looks}
use Rattle.aside_disk.specs.Walking.{HasPiece, IsPiece, IsWalk}
use Rattle.aside_disk.proofs.Openings.{Went}
use Rattle.aside_disk.proofs.opening.walk_log.Given as goal

abbrev pub invariant-records : goal.invariant-records
invariant-records g l = record {
  walk : IsWalk l.walk.at l.fn.end;
  ends : l.walk.end ≡ l.fn.end;
  piece : IsPiece l.walk.piece;
  fits : l.fn.len < 2 ^ 63 → l.walk.len < 2 ^ 63;
  counts : CountsFaults ⊥ (g.D.Disk.outside l.fn.disk) (g.D.Disk.outside l.disk);
  same : g.D.Disk.tells → Looks (g.D.Disk.outside l.fn.disk) (g.D.Disk.outside l.disk);
  has : g.D.Disk.tells → HasPiece (g.D.Disk.outside l.fn.disk).now.disk.seen l.walk.piece;
  went : g.D.Disk.tells → Went (g.D.Disk.outside l.fn.disk).now.disk.seen l.fn.len l.walk.at l.walk.len;
}

abbrev pub decreases-records : goal.decreases-records
decreases-records g l = l.fn.end - l.walk.at

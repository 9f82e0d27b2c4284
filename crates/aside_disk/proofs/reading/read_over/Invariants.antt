use Rattle.std.proofs.Common.{◌≡◌, ◌-◌, List, length, Ok}
use Rattle.host_io.specs.Calls.{CountsDisk, Looks}
use Rattle.host_io.specs.declared.traits.Failed.{Failed}
use Rattle.aside_disk.specs.Records.{Entry, applied}
use Rattle.aside_disk.specs.Walking.{HasPiece, IsPiece, IsWalk, Walked}
use Rattle.aside_disk.specs.Reading.{Covers}
use Rattle.aside_disk.proofs.reading.read_over.Given as goal

abbrev pub invariant-records : goal.invariant-records
invariant-records g l = record {
  walk : IsWalk l.walk.at l.fn.end;
  ends : l.walk.end ≡ l.fn.end;
  piece : IsPiece l.walk.piece;
  long : length l.into ≡ length l.fn.into;
  counts : CountsDisk {T = Unit {0}} {E = Failed} (g.D.Disk.outside l.fn.disk) (g.D.Disk.outside l.disk) (Ok tt);
  same : g.D.Disk.tells → Looks (g.D.Disk.outside l.fn.disk) (g.D.Disk.outside l.disk);
  has : g.D.Disk.tells → HasPiece (g.D.Disk.outside l.fn.disk).now.disk.seen l.walk.piece;
  before : g.D.Disk.tells → (before : List Entry) × Walked (g.D.Disk.outside l.fn.disk).now.disk.seen (length l.fn.base) l.walk.at l.walk.len before × Covers (applied l.fn.base before) l.fn.at l.into;
}

abbrev pub decreases-records : goal.decreases-records
decreases-records g l = l.fn.end - l.walk.at

use Rattle.std.proofs.Common.{◌≡◌, ◌-◌, ◌≤◌, length, take, drop}
use Rattle.host_io.specs.Calls.{CountsFaults, Looks}
use Rattle.block_io.proofs.reading.read_block.Given as goal

abbrev pub invariant-loop-left : goal.invariant-loop-left
invariant-loop-left g l = record {
  within : l.left ≤ l.fn.span.len;
  len : length l.bytes.items ≡ l.fn.span.len - l.left;
  counts : CountsFaults ⊥ (g.D.Disk.outside l.fn.disk) (g.D.Disk.outside l.disk);
  same : g.D.Disk.tells → Looks (g.D.Disk.outside l.fn.disk) (g.D.Disk.outside l.disk);
  bytes : g.D.Disk.tells → l.bytes.items ≡ take (l.fn.span.len - l.left) (drop l.fn.span.place (g.D.Disk.outside l.fn.disk).now.disk.seen);
}

abbrev pub decreases-loop-left : goal.decreases-loop-left
decreases-loop-left g l = l.left

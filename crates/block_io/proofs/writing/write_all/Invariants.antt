use Rattle.std.proofs.Common.{◌≡◌, ◌+◌, length, Ok}
use Rattle.host_io.specs.Calls.{CountsDisk}
use Rattle.host_io.specs.declared.traits.Failed.{Failed}
use Rattle.block_io.specs.Parts.{rounded}
use Rattle.block_io.proofs.Pieces.{HasPut}
use Rattle.block_io.proofs.writing.write_all.Given as goal

abbrev pub invariant-pieces : goal.invariant-pieces
invariant-pieces g l = record {
  place : l.place + length (rounded (g.S.Source.rest l.source)) ≡ l.fn.at + length (rounded (g.S.Source.rest l.fn.source));
  counts : CountsDisk {T = Unit {0}} {E = Failed} (g.D.Disk.outside l.fn.disk) (g.D.Disk.outside l.disk) (Ok tt);
  puts : g.D.Disk.tells → HasPut l.fn.at l.place (g.S.Source.rest l.fn.source) (g.S.Source.rest l.source) (g.D.Disk.outside l.fn.disk) (g.D.Disk.outside l.disk);
}

abbrev pub decreases-pieces : goal.decreases-pieces
decreases-pieces g l = length (g.S.Source.rest l.source)

use Rattle.std.proofs.Common.{map, take, Ok}
use Rattle.std.specs.List.{filter}
use Rattle.host_io.specs.Calls.{CountsDisk}
use Rattle.host_io.specs.declared.traits.Failed.{Failed}
use Rattle.commit_writes.specs.Writing.{PutsBlocks}
use Rattle.recovery.specs.Commits.{blocks_at}
use Rattle.commit_plan.specs.Following.{is_some}
use Rattle.commit_plan.specs.Payloads.{payload_bytes}
use Rattle.commit_plan.proofs.writing.write_blocks.Given as goal

abbrev pub invariant-payloads : goal.invariant-payloads
invariant-payloads g l = record {
  counts : CountsDisk {T = Unit {0}} {E = Failed} (g.D.Disk.outside l.fn.disk) (g.D.Disk.outside l.disk) (Ok tt);
  puts : g.D.Disk.tells → PutsBlocks {T = Unit {0}} {E = Failed} (filter is_some (take l.at (blocks_at l.fn.spans (map payload_bytes l.fn.payloads)))) (g.D.Disk.outside l.fn.disk) (g.D.Disk.outside l.disk) (Ok tt);
}

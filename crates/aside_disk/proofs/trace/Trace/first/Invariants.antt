use Rattle.aside_disk.specs.Standing.{first_seen}
use Rattle.aside_disk.proofs.trace.Trace.first.Given as goal

abbrev pub ghost-first_at : goal.ghost-first_at
ghost-first_at g a = first_seen a._disk.now.ghost_name a._number a._base.now.bytes a._log.now.end (g.D.Disk.outside a._disk.now.now)

use Rattle.std.proofs.Common.{take}
use Rattle.aside_disk.specs.Shown.{spoke}
use Rattle.aside_disk.proofs.trace.Trace.spoke.Given as goal

abbrev pub ghost-spoke_at : goal.ghost-spoke_at
ghost-spoke_at a = spoke a._trace.now.seen (take a._count a._piece.now)

use Rattle.aside_disk.specs.Shown.{rested}
use Rattle.aside_disk.proofs.trace.Trace.rested.Given as goal

abbrev pub ghost-rested_at : goal.ghost-rested_at
ghost-rested_at a = rested a._trace.now.seen

use Rattle.aside_disk.proofs.trace.rested_at.Given as goal

abbrev pub ghost-at : goal.ghost-at
ghost-at g a = g.told

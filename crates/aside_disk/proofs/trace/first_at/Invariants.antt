use Rattle.aside_disk.proofs.trace.first_at.Given as goal

abbrev pub ghost-at : goal.ghost-at
ghost-at g a = g.told

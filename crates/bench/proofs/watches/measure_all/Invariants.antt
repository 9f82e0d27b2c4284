use Rattle.bench.proofs.watches.measure_all.Given as goal

abbrev pub ghosts-time_each_size : goal.ghosts-time_each_size
ghosts-time_each_size a = record { name = a.blank.name; parts = a.blank.parts }

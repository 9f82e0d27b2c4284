use Rattle.kept_counts.proofs.noting.noted.Given as goal

abbrev pub ghosts-mark : goal.ghosts-mark
ghosts-mark a = record { name = a.blank.name; parts = a.blank.parts }

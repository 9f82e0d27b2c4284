use Rattle.kept_counts.proofs.noting.followed.Given as goal

abbrev pub ghosts-advance : goal.ghosts-advance
ghosts-advance a = record { name = a.blank.name; parts = a.blank.parts }

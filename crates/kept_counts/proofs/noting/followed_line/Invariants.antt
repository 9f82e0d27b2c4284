use Rattle.kept_counts.proofs.noting.followed_line.Given as goal

abbrev pub ghosts-advance_line : goal.ghosts-advance_line
ghosts-advance_line a = record { name = a.blank.name; parts = a.blank.parts }

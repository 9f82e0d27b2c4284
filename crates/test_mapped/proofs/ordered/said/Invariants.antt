use Rattle.test_mapped.proofs.ordered.said.Given as goal

abbrev pub ghosts-lower : goal.ghosts-lower
ghosts-lower a = record { name = a.blank.name; parts = a.blank.parts }

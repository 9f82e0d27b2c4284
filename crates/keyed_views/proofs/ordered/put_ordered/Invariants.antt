use Rattle.keyed_views.proofs.ordered.put_ordered.Given as goal

abbrev pub ghosts-stands : goal.ghosts-stands
ghosts-stands g a = record { name = a.blank.name; parts = a.blank.parts }

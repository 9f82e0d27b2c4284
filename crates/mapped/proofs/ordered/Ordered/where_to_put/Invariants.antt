use Rattle.mapped.proofs.ordered.Ordered.where_to_put.Given as goal

abbrev pub ghosts-lower_uncounted : goal.ghosts-lower_uncounted
ghosts-lower_uncounted g a = record { name = a.blank.name; parts = a.blank.parts }

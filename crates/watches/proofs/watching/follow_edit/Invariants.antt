use Rattle.watches.proofs.watching.follow_edit.Given as goal

abbrev pub ghosts-follow : goal.ghosts-follow
ghosts-follow g a = record { name = a.blank.name; parts = a.blank.parts }

use Rattle.watches.proofs.watching.follow_line.Given as goal

abbrev pub ghosts-follow_edits : goal.ghosts-follow_edits
ghosts-follow_edits g a = record { name = a.blank.name; parts = a.blank.parts }

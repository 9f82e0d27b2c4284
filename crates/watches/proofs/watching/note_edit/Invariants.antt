use Rattle.watches.proofs.watching.note_edit.Given as goal

abbrev pub ghosts-note : goal.ghosts-note
ghosts-note g a = record { name = a.blank.name; parts = a.blank.parts }

use Rattle.test_following.proofs.streams.positions_and_counts_are_those_made_anew.Given as goal

abbrev pub ghosts-stream : goal.ghosts-stream
ghosts-stream a = record { name = a.blank.name; parts = a.blank.parts }

abbrev pub ghosts-count_stream : goal.ghosts-count_stream
ghosts-count_stream a = record { name = a.blank.name; parts = a.blank.parts }

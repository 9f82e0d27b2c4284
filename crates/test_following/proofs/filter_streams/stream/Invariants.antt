use Rattle.test_following.proofs.filter_streams.stream.Given as goal

abbrev pub ghosts-twelve_events : goal.ghosts-twelve_events
ghosts-twelve_events g a = record { name = a.blank.name; parts = a.blank.parts }

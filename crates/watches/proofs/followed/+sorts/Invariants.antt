use Rattle.watches.proofs.followed.+sorts.Given as goal

-- each source stands before its watch
abbrev pub decreases-sorts : goal.decreases-sorts
decreases-sorts l = l.place

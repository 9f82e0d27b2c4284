use Rattle.std.proofs.Common.{◌≡◌}
use Rattle.grouping.specs.Index.{starts_below}
use Rattle.grouping.proofs.groups.starts_of.Given as goal

-- the starts so far
abbrev pub invariant-loop-place : goal.invariant-loop-place
invariant-loop-place g l = l.starts.items ≡ starts_below (g.K.Keys.keys l.keys) l.order l.place

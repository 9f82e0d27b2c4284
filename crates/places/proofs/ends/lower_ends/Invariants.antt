use Rattle.std.proofs.Common.{◌≡◌, ◌-◌, ◌++◌, map, take, drop}
use Rattle.places.proofs.ends.lower_ends.Given as goal

abbrev pub invariant-loop-k : goal.invariant-loop-k
invariant-loop-k l = l.ends ≡ take l.from l.fn.ends ++ (map (λ e. e - l.by) (take (l.k - l.from) (drop l.from l.fn.ends)) ++ drop (l.k - l.from) (drop l.from l.fn.ends))

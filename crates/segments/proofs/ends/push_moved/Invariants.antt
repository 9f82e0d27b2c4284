use Rattle.std.proofs.Common.{◌≡◌, ◌+◌, ◌-◌, ◌++◌, map, take, drop}
use Rattle.segments.proofs.ends.push_moved.Given as goal

abbrev pub invariant-loop-end : goal.invariant-loop-end
invariant-loop-end l =
    l.out.items ≡ l.initial.out.items ++ map (λ e. e - l.from + l.to) (take l.end-index (drop l.after l.ends))

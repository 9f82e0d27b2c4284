use Rattle.std.proofs.Common.{◌≡◌, map, take}
use Rattle.grouping.specs.declared.entry.Entry.{Entry}
use Rattle.grouping.proofs.index.order_of.Given as goal

-- the positions so far
abbrev pub invariant-loop-entry : goal.invariant-loop-entry
invariant-loop-entry l = l.order.items ≡ map (λ (e : Entry). e.at) (take l.entry-index l.entry-items)

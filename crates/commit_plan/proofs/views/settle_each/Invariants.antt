use Rattle.std.proofs.Common.{take}
use Rattle.commit_plan.specs.Settling.{SettlesTables}
use Rattle.commit_plan.proofs.views.settle_each.Given as goal

abbrev pub invariant-tables : goal.invariant-tables
invariant-tables l = SettlesTables (take l.table-index l.fn.tables) l.initial.places l.places l.settled.items

use Rattle.std.proofs.Common.{[], take}
use Rattle.commit_plan.specs.Leaves.{Gains}
use Rattle.commit_plan.specs.Plain.{plain_tables}
use Rattle.commit_plan.proofs.leaves.leaves_of.Given as goal

abbrev pub invariant-tables : goal.invariant-tables
invariant-tables l = Gains (plain_tables (take l.table-index l.table-items)) [] l.leaves.items

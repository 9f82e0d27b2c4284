use Rattle.std.proofs.Common.{take}
use Rattle.tables.specs.Rests.{blocks}
use Rattle.commit_plan.specs.Plain.{plain_tables}
use Rattle.commit_plan.specs.Usage.{Adds}
use Rattle.commit_plan.proofs.measuring.views_usage.Given as goal

abbrev pub invariant-tables : goal.invariant-tables
invariant-tables l = Adds (blocks (plain_tables (take l.table-index l.table-items))) l.initial.usage l.usage

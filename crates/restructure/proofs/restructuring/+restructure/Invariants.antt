use Rattle.std.proofs.Common.{◌+◌, ◌*◌}
use Rattle.mk_value.specs.Heading.{domain_weight, attributes_weight}
use Rattle.mk_value.specs.Kinds.{domain_of}
use Rattle.tables.proofs.Rebuilding.{AreFirstColumns}
use Rattle.restructure.specs.Restructuring.{restructured}
use Rattle.restructure.proofs.Made.{AreMade}
use Rattle.restructure.proofs.restructuring.+restructure.Given as goal

abbrev pub decreases-restructure_table : goal.decreases-restructure_table
decreases-restructure_table l = 8 * attributes_weight l.new.now + 3

abbrev pub decreases-restructure_cols : goal.decreases-restructure_cols
decreases-restructure_cols l = 8 * attributes_weight l.new.now + 2

abbrev pub decreases-restructure_place : goal.decreases-restructure_place
decreases-restructure_place l = 8 * domain_weight (domain_of l.kind.now) + 1

abbrev pub decreases-restructure_column : goal.decreases-restructure_column
decreases-restructure_column l = 8 * domain_weight (domain_of l.kind.now)

abbrev pub decreases-to_views : goal.decreases-to_views
decreases-to_views l = 8 * attributes_weight l.schema.now + 6

abbrev pub decreases-restructure_views : goal.decreases-restructure_views
decreases-restructure_views l = 8 * attributes_weight l.new.now + 5

abbrev pub decreases-restructure_inner : goal.decreases-restructure_inner
decreases-restructure_inner l = 8 * attributes_weight l.new.now + 4

-- the columns so far are the first of the table
abbrev pub invariant-restructure_cols-loop-at : goal.invariant-restructure_cols-loop-at
invariant-restructure_cols-loop-at l = AreFirstColumns (restructured l.fn.old l.fn.new) l.at l.cols

-- the tables so far are those of the first rows, and whole
abbrev pub invariant-restructure_views-loop-at : goal.invariant-restructure_views-loop-at
invariant-restructure_views-loop-at l = AreMade l.fn.old l.fn.new l.at l.tables

use Rattle.std.proofs.Common.{◌+◌, ◌*◌}
use Rattle.mk_value.specs.Heading.{heading_of, domain_weight, attributes_weight}
use Rattle.mk_value.specs.Kinds.{domain_of}
use Rattle.dir_codec.proofs.BodyLists as bodies
use Rattle.dir_codec.proofs.ColumnLists as columns
use Rattle.dir_codec.proofs.tables.+read.Given as goal

abbrev pub decreases-read_column : goal.decreases-read_column
decreases-read_column l = 4 * domain_weight (domain_of l.kind.now)

abbrev pub decreases-read_bodies : goal.decreases-read_bodies
decreases-read_bodies l = 4 * attributes_weight l.schema.now + 2

abbrev pub decreases-read_body : goal.decreases-read_body
decreases-read_body l = 4 * attributes_weight l.schema.now + 1

abbrev pub decreases-read_columns : goal.decreases-read_columns
decreases-read_columns l = 4 * attributes_weight l.schema.now

-- the columns so far lead to those of the properties to come
abbrev pub invariant-read_columns-loop-prop : goal.invariant-read_columns-loop-prop
invariant-read_columns-loop-prop l = columns.AreRead l.end l.bytes l.rows l.at l.prop-items l.columns l.prop-index l.place

-- the tables so far lead to those that are still due
abbrev pub invariant-read_bodies-loop-done : goal.invariant-read_bodies-loop-done
invariant-read_bodies-loop-done l = bodies.AreRead l.end (heading_of l.schema) l.bytes l.count l.at l.bodies l.done l.place

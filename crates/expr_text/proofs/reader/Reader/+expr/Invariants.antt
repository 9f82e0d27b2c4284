use Rattle.std.proofs.Common.{◌+◌, ◌*◌}
use Rattle.expr_text.proofs.reader.Reader.+expr.Given as goal

abbrev pub decreases-expr : goal.decreases-expr
decreases-expr l = 6 * l.depth

abbrev pub decreases-table : goal.decreases-table
decreases-table l = 6 * l.depth + 1

abbrev pub decreases-second : goal.decreases-second
decreases-second l = 6 * l.depth + 2

abbrev pub decreases-last : goal.decreases-last
decreases-last l = 6 * l.depth + 3

abbrev pub decreases-applied : goal.decreases-applied
decreases-applied l = 6 * l.depth + 4

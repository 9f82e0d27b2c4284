use Rattle.std.proofs.Common.{◌+◌, ◌*◌, length}
use Rattle.tables.proofs.edits.+fn-remove_rows-also+remove_rows.Given as goal

abbrev pub decreases-also : goal.decreases-also
decreases-also l = 2 * length l.rest.now + 1

abbrev pub decreases-remove_rows : goal.decreases-remove_rows
decreases-remove_rows l = 2 * length l.cols.now

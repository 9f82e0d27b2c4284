use Rattle.std.proofs.Common.{◌+◌, ◌*◌, length}
use Rattle.tables.proofs.edits.+fn-insert_rows-also+insert_rows.Given as goal

abbrev pub decreases-also : goal.decreases-also
decreases-also l = 2 * length l.rest.now + 1

abbrev pub decreases-insert_rows : goal.decreases-insert_rows
decreases-insert_rows l = 2 * length l.cols.now

use Rattle.std.proofs.Common.{[], get_or}
use Rattle.relations.specs.Columns.{values_at}
use Rattle.grouping.proofs.Probing.{IsDecidedFrom}
use Rattle.grouping.proofs.keys.TableKeys.cmp_with.Given as goal

abbrev pub invariant-loop-place : goal.invariant-loop-place
invariant-loop-place g l = IsDecidedFrom l.place (values_at l.ones (get_or (g.T.TableRead.rows l.table) l.at [])) (values_at l.twos l.row)

use Rattle.std.proofs.Common.{map}
use Rattle.mk_value.specs.LiteralValues.{literal_of}
use Rattle.session.proofs.Fitted.{SoFar}
use Rattle.session.proofs.values.make_row.Given as goal

abbrev pub invariant-loop-at : goal.invariant-loop-at
invariant-loop-at l = SoFar (map literal_of l.values) l.props l.row l.at

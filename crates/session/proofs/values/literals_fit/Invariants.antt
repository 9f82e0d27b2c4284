use Rattle.std.proofs.Common.{◌≡◌, map, drop}
use Rattle.mk_value.specs.LiteralValues.{literal_of}
use Rattle.session.specs.Fitting.{all_fit}
use Rattle.session.proofs.values.literals_fit.Given as goal

-- all literals fit where those to come do
abbrev pub invariant-loop-at : goal.invariant-loop-at
invariant-loop-at l = all_fit (map literal_of l.values) l.props ≡ all_fit (drop l.at (map literal_of l.values)) (drop l.at l.props)

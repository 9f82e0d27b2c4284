use Rattle.std.proofs.Common.{◌≡◌, map, drop}
use Rattle.mk_value.specs.Values.{datum_of}
use Rattle.view_store.specs.Fitting.{are_of}
use Rattle.view_store.proofs.check.values_fit.Given as goal

-- all values fit where those to come do
abbrev pub invariant-loop-at : goal.invariant-loop-at
invariant-loop-at l = are_of (map datum_of l.values) l.props ≡ are_of (drop l.at (map datum_of l.values)) (drop l.at l.props)

use Rattle.std.proofs.Common.{◌≡◌, ◌++◌, map, drop}
use Rattle.mk_value.specs.Data.{default_of}
use Rattle.tables.specs.Rows.{completed}
use Rattle.session.proofs.values.complete.Given as goal

-- the values so far and the defaults still to come are the whole row
abbrev pub invariant-loop-at : goal.invariant-loop-at
invariant-loop-at l = l.row ++ map (λ a. default_of a.domain) (drop l.at l.props) ≡ completed l.props l.initial.row

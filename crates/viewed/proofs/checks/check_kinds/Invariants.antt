use Rattle.std.proofs.Common.{◌≡◌, map, drop}
use Rattle.mk_value.specs.Kinds.{domain_of}
use Rattle.derived.specs.Viewing.{of_other_kind}
use Rattle.viewed.proofs.checks.check_kinds.Given as goal

abbrev pub invariant-loop-at : goal.invariant-loop-at
invariant-loop-at l = of_other_kind (drop l.at (map domain_of l.takes)) l.schema (drop l.at l.args) ≡ of_other_kind (map domain_of l.takes) l.schema l.args

use Rattle.std.proofs.Common.{◌≡◌, take}
use Rattle.mk_value.proofs.schema.+copy.Given as goal

abbrev pub invariant-Props::copy-loop-prop : goal.invariant-Props::copy-loop-prop
invariant-Props::copy-loop-prop l = l.copy ≡ take l.prop-index l.prop-items

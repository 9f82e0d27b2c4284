use Rattle.std.proofs.Common.{◌≡◌, take}
use Rattle.viewed.proofs.calculated.copied_props.Given as goal

abbrev pub invariant-loop-prop : goal.invariant-loop-prop
invariant-loop-prop l = l.props ≡ take l.prop-index l.schema

use Rattle.std.proofs.Common.{length, ◌-◌, ◌+◌, ◌*◌}
use Rattle.struct_text.specs.Reading.{IsReadTo}
use Rattle.struct_text.proofs.reading.+properties.Given as goal

-- each bracket goes down by three calls
abbrev pub decreases-read_kind : goal.decreases-read_kind
decreases-read_kind l = 3 * (9 - l.depth)

abbrev pub decreases-read_property : goal.decreases-read_property
decreases-read_property l = 3 * (9 - l.depth) + 1

abbrev pub decreases-read_properties : goal.decreases-read_properties
decreases-read_properties l = 3 * (9 - l.depth) + 2

abbrev pub invariant-read_properties-loop-props : goal.invariant-read_properties-loop-props
invariant-read_properties-loop-props l = IsReadTo l.bytes l.start l.depth l.props l.at

abbrev pub decreases-read_properties-loop-props : goal.decreases-read_properties-loop-props
decreases-read_properties-loop-props l = length l.bytes - l.at

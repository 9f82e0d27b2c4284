use Rattle.std.proofs.Common.{◌≡◌, ◌+◌, drop}
use Rattle.mk_value.specs.Heading.{heading_of, attributes_weight, domain_weight}
use Rattle.mk_value.specs.Kinds.{domain_of}
use Rattle.struct_text.specs.Lengths.{properties_length}
use Rattle.view_store.proofs.structure.+room.Given as goal

abbrev pub decreases-room_after : goal.decreases-room_after
decreases-room_after l = attributes_weight l.schema.now + 1

abbrev pub decreases-room_after_kind : goal.decreases-room_after_kind
decreases-room_after_kind l = domain_weight (domain_of l.kind.now)

-- what is left, and the properties so far, fill the room
abbrev pub invariant-room_after-loop-prop : goal.invariant-room_after-loop-prop
invariant-room_after-loop-prop l =
    l.left + properties_length (heading_of l.prop-items) + 1 ≡ l.fn.room + properties_length (heading_of (drop l.prop-index l.prop-items))

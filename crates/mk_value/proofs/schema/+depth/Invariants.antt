use Rattle.std.proofs.Common.{◌≡◌, ◌+◌, max, drop}
use Rattle.mk_value.specs.Heading.{heading_of, heading_depth, domain_weight, attributes_weight}
use Rattle.mk_value.specs.Kinds.{domain_of}
use Rattle.mk_value.proofs.schema.+depth.Given as goal

abbrev pub decreases-Kind::depth : goal.decreases-Kind::depth
decreases-Kind::depth l = domain_weight (domain_of l.self.now)

abbrev pub decreases-Schema::depth : goal.decreases-Schema::depth
decreases-Schema::depth l = attributes_weight l.self.now + 1

abbrev pub decreases-depth_inside : goal.decreases-depth_inside
decreases-depth_inside l = attributes_weight l.props.now

-- the greatest depth so far, with that of the properties to come, is that of all
abbrev pub invariant-depth_inside-loop-prop : goal.invariant-depth_inside-loop-prop
invariant-depth_inside-loop-prop l =
    max l.inside (heading_depth (heading_of (drop l.prop-index l.props))) ≡ heading_depth (heading_of l.props)

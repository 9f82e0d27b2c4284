use Rattle.std.proofs.Common.{◌≡◌, ◌+◌, take}
use Rattle.mk_value.specs.Heading.{domain_weight, attributes_weight}
use Rattle.mk_value.specs.Kinds.{domain_of}
use Rattle.mk_value.proofs.schema.+is_same.Given as goal

abbrev pub decreases-Kind::is_same : goal.decreases-Kind::is_same
decreases-Kind::is_same l = domain_weight (domain_of l.self.now)

abbrev pub decreases-Prop::is_same : goal.decreases-Prop::is_same
decreases-Prop::is_same l = domain_weight l.self.now.domain + 1

abbrev pub decreases-Schema::is_same : goal.decreases-Schema::is_same
decreases-Schema::is_same l = attributes_weight l.self.now + 1

-- the properties seen so far are the same
abbrev pub invariant-Schema::is_same-loop-at : goal.invariant-Schema::is_same-loop-at
invariant-Schema::is_same-loop-at l = take l.at l.ones ≡ take l.at l.twos

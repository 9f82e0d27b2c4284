use Rattle.std.proofs.Common.{◌+◌, ◌*◌, take}
use Rattle.mk_value.specs.Heading.{heading_of, domain_weight, attributes_weight}
use Rattle.mk_value.specs.Kinds.{domain_of}
use Rattle.struct_text.specs.Spelling.{spelled_properties}
use Rattle.struct_text.specs.Printing.{IsAppended}
use Rattle.struct_text.proofs.printing.+print.Given as goal

abbrev pub decreases-print_kind : goal.decreases-print_kind
decreases-print_kind l = 4 * domain_weight (domain_of l.kind.now)

abbrev pub decreases-print_brackets : goal.decreases-print_brackets
decreases-print_brackets l = 4 * attributes_weight l.schema.now + 1

abbrev pub decreases-print_properties : goal.decreases-print_properties
decreases-print_properties l = 4 * attributes_weight l.schema.now

abbrev pub decreases-print_property : goal.decreases-print_property
decreases-print_property l = 4 * domain_weight l.prop.now.domain + 1

-- the properties so far are printed
abbrev pub invariant-print_properties-loop-prop : goal.invariant-print_properties-loop-prop
invariant-print_properties-loop-prop l = IsAppended l.fn.out l.out (spelled_properties (heading_of (take (l.prop-index + 1) l.schema)))

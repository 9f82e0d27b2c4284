use Rattle.std.proofs.Common.{◌≡◌, drop, filter, max, not}
use Rattle.mk_value.specs.Heading.{heading_depth, heading_of}
use Rattle.relations.specs.Rows.{is_among}
use Rattle.grouping.proofs.grouped.depth_of_others.Given as goal

abbrev pub invariant-loop-prop : goal.invariant-loop-prop
invariant-loop-prop l =
    max l.depth (heading_depth (heading_of (filter (λ a. not (is_among l.names a.name)) (drop l.prop-index l.schema))))
    ≡ heading_depth (heading_of (filter (λ a. not (is_among l.names a.name)) l.schema))

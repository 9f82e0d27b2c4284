use Rattle.std.proofs.Common.{length, map, ap, sym, subst, ◌∙◌, arith}
use Rattle.std.proofs.lemmas.List.{take_all}
use Rattle.mk_value.specs.Heading.{IsWithinLimits}
use Rattle.derived.specs.Operators.{renamed}
use Rattle.derived.proofs.Renaming.{renamed_limits}
use Rattle.derived.proofs.columns.renamed_schema.Goals as goal

pub of-requires : goal.of-requires
of-requires c =
    let items = ap length c.as_slice-prop-items.ensures.value in
    let end = c.loop-prop-test.false in
    subst IsWithinLimits (sym (c.loop-prop.invariant ∙ ap (map (renamed c.args.from.now c.args.to.now)) (take_all c.loop-prop.prop-index c.args.schema.now (omega arith))))
    (renamed_limits c.args.from.now c.args.to.now c.args.schema.now c.as_slice-prop-items.ensures.whole c.requires)

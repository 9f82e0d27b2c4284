use Rattle.std.proofs.Common.{map, refl, ap, ◌∙◌}
use Rattle.derived.specs.Grouping.{counts}
use Rattle.derived.specs.Layers.{table_of}
use Rattle.derived.specs.Refusals.{counts_due}
use Rattle.expr_text.specs.Arguments.{named}
use Rattle.expr_text.specs.Meanings.{query_of}
use Rattle.expr_text.specs.declared.operator.Operator.TheVariants as operators
use Rattle.questions.specs.Kept.{asked_names}
use Rattle.questions.proofs.Sizes.{size_of_one, told_as}
use Rattle.questions.proofs.scope.Scope.counts.Goals as goal

pub returns : goal.returns
returns g c =
    let t = table_of c.in_ok-table.table in
    let keys = c.args.keys.now in
    let sub = c.args.count.now in
    size_of_one t (counts keys sub t) (asked_names c.args.self.now.names (map g.V.Viewer.meaning c.args.self.now.viewers.now) c.args.self.now.computed.now) (map g.V.Viewer.meaning c.args.self.now.viewers.now) (query_of c.args.base.now)
    operators.Counts (named keys sub) (counts_due keys sub t) c.counts_size.result c.told_size.result c.in_ok-table.ensures refl c.counts_size.ensures.due c.counts_size.ensures.ok
    (c.told_size.ensures ∙ ap (λ n. told_as n c.counts_size.result) c.size-rows.ensures.value)

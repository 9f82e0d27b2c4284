use Rattle.std.proofs.Common.{map, refl, ap, ◌∙◌}
use Rattle.derived.specs.Grouping.{group_by}
use Rattle.derived.specs.Layers.{table_of}
use Rattle.derived.specs.Refusals.{group_by_due}
use Rattle.expr_text.specs.Arguments.{named}
use Rattle.expr_text.specs.Meanings.{query_of}
use Rattle.expr_text.specs.declared.operator.Operator.TheVariants as operators
use Rattle.questions.specs.Kept.{asked_names}
use Rattle.questions.proofs.Sizes.{size_of_one, told_as}
use Rattle.questions.proofs.scope.Scope.groups.Goals as goal

pub returns : goal.returns
returns g c =
    let t = table_of c.in_ok-table.table in
    let keys = c.args.keys.now in
    let sub = c.args.sub.now in
    size_of_one t (group_by keys sub t) (asked_names c.args.self.now.names (map g.V.Viewer.meaning c.args.self.now.viewers.now) c.args.self.now.computed.now) (map g.V.Viewer.meaning c.args.self.now.viewers.now) (query_of c.args.base.now)
    operators.GroupBy (named keys sub) (group_by_due keys sub t) c.group_by_size.result c.told_size.result c.in_ok-table.ensures refl c.group_by_size.ensures.due c.group_by_size.ensures.ok
    (c.told_size.ensures ∙ ap (λ n. told_as n c.group_by_size.result) c.size-rows.ensures.value)

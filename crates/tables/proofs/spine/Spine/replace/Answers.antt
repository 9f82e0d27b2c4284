use Rattle.std.proofs.Common.{ap, ◌∙◌}
use Rattle.std.proofs.lemmas.Result.{on_ok_weaker}
use Rattle.segments.specs.Joined.{joined}
use Rattle.segments.proofs.Joined.{few_after, joined_after}
use Rattle.tables.proofs.spine.Spine.replace.Goals as goal

pub put-requires-clause-few : goal.put-requires-clause-few
put-requires-clause-few c =
    few_after c.args.self.now c.in_ok-cut.field-0.items c.args.splice.now c.replaced-replaced.result c.args.table.now c.requires c.replaced-replaced.ensures
    (c.in_ok-cut.ensures.tables ∙ c.in_ok-tables.ensures)

pub returns : goal.returns
returns c =
    on_ok_weaker c.put.result
    (λ put. ap joined put ∙ joined_after c.args.self.now c.in_ok-cut.field-0.items c.args.splice.now c.replaced-replaced.result c.args.table.now c.replaced-replaced.ensures
    (c.in_ok-cut.ensures.tables ∙ c.in_ok-tables.ensures))
    c.put.ensures

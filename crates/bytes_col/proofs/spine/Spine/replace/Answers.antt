use Rattle.std.proofs.Common.{◌∙◌, ap}
use Rattle.std.proofs.lemmas.Result.{on_ok_weaker}
use Rattle.segments.specs.Joined.{joined}
use Rattle.segments.proofs.Joined.{joined_after, few_after}
use Rattle.bytes_col.proofs.spine.Spine.replace.Goals as goal

pub put-requires-clause-few : goal.put-requires-clause-few
put-requires-clause-few c =
    few_after c.args.self.now c.in_ok-finish.field-0 c.args.splice.now c.replaced-replaced.result c.args.value.now c.requires c.replaced-replaced.ensures
    (c.in_ok-finish.ensures ∙ c.in_ok-parts.ensures)

pub returns-clause-ok : goal.returns-clause-ok
returns-clause-ok c =
    on_ok_weaker c.put.result
    (λ put. ap joined put ∙ joined_after c.args.self.now c.in_ok-finish.field-0 c.args.splice.now c.replaced-replaced.result c.args.value.now c.replaced-replaced.ensures
    (c.in_ok-finish.ensures ∙ c.in_ok-parts.ensures))
    c.put.ensures.ok

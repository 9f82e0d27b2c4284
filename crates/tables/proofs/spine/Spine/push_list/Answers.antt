use Rattle.std.proofs.Common.{ap, ◌∙◌}
use Rattle.std.proofs.lemmas.Result.{on_ok_weaker}
use Rattle.segments.specs.Joined.{joined}
use Rattle.tables.proofs.Chunks.{few_behind, joined_behind}
use Rattle.tables.proofs.spine.Spine.push_list.Goals as goal

pub put-requires-clause-few : goal.put-requires-clause-few
put-requires-clause-few c =
    few_behind c.args.self.now c.in_ok-cut.field-0.items c.args.list c.chunks-end.result c.chunks-end.ensures c.in_ok-cut.ensures.tables c.requires

pub returns : goal.returns
returns c =
    on_ok_weaker c.put.result
    (λ put. ap joined put ∙ joined_behind c.args.self.now c.in_ok-cut.field-0.items c.args.list c.chunks-end.result c.chunks-end.ensures c.in_ok-cut.ensures.tables)
    c.put.ensures

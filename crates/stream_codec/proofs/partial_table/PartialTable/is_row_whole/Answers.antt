use Rattle.std.proofs.Common.{length, ◌∙◌, ap}
use Rattle.stream_codec.proofs.Inners.{le_test, seen_length, seen_schema}
use Rattle.stream_codec.proofs.partial_table.PartialTable.is_row_whole.Goals as goal

pub returns : goal.returns
returns c =
    let i = c.self.inside in
    le_test c.len.result c.len-2.result _ _ (c.len.ensures.value ∙ ap length (c.schema.ensures.value ∙ seen_schema i.table i.row i.inners.items i.left c.args.self.now c.self.view_is))
    (c.len-2.ensures ∙ seen_length i.table i.row i.inners.items i.left c.args.self.now c.self.view_is)

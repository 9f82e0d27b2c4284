use Rattle.stream_codec.proofs.Inners.{front_row, seen_whole}
use Rattle.stream_codec.proofs.partial_table.PartialTable.next_row.Goals as goal

pub put_row-requires-clause-row : goal.put_row-requires-clause-row
put_row-requires-clause-row c =
    let i = c.self.inside in
    front_row i.row i.table.schema c.self.invariant.front (seen_whole i.table i.row i.inners.items i.left c.args.self c.self.view_is c.requires.whole)

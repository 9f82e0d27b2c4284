use Rattle.questions.proofs.Ordered.{stand_sorted}
use Rattle.questions.proofs.in_order.InOrder.search.Goals as goal

pub search_among-requires : goal.search_among-requires
search_among-requires c =
    rw (c.as_slice.ensures, c.in_ok-keys.ensures, c.schema.ensures.value)
    (stand_sorted c.args.self.now.table.now c.args.self.now.keys c.schema.ensures.whole c.size-rows.ensures.whole c.requires)

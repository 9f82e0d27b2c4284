use Rattle.int_col.proofs.Segments.{count_is}
use Rattle.int_col.proofs.tail.Tail.lend.Goals as goal

pub returns-clause-count : goal.returns-clause-count
returns-clause-count c =
    count_is c.self.inside.count c.self.inside.width c.self.inside.bytes.items c.args.self.now c.self.view_is

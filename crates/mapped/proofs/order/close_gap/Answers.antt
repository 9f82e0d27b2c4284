use Rattle.std.proofs.Common.{arith}
use Rattle.mapped.proofs.Moving.{still_closed}
use Rattle.mapped.proofs.order.close_gap.Goals as goal

pub lower-requires : goal.lower-requires
lower-requires c k d p above = omega arith

pub returns-else-at-size-clause-list : goal.returns-else-at-size-clause-list
returns-else-at-size-clause-list c = still_closed c.args.at c.args.size c.args.order.now.list c.requires.within (omega arith)

use Rattle.std.proofs.Common.{arith}
use Rattle.mapped.proofs.Moving.{still_opened}
use Rattle.mapped.proofs.order.make_room.Goals as goal

pub raise-requires : goal.raise-requires
raise-requires c k d p =
    let q = c.requires.within k d p in
    let few = c.requires.few in
    omega arith

pub returns-else-at-size-clause-list : goal.returns-else-at-size-clause-list
returns-else-at-size-clause-list c = still_opened c.args.at c.args.size c.args.order.now.list c.requires.within (omega arith)

use Rattle.std.proofs.Common.{arith}
use Rattle.session.proofs.Dues.{insert-none}
use Rattle.session.proofs.session.Session.put.Goals as goal

pub change-requires-clause-due : goal.change-requires-clause-due
change-requires-clause-due c =
    insert-none c.args.self.now.store.views c.args.path.now c.args.place c.args.copies c.args.size c.in_ok-row.row c.args.literals.now c.requires.there c.requires.size c.requires.place
    (let after = c.in_ok-after.ensures.after in let room = c.in_ok-after.ensures.room in omega (arith, after, room)) c.in_ok-row.ensures.value c.in_ok-row.ensures.whole

use Rattle.std.proofs.Common.{sym}
use Rattle.session.proofs.Dues.{remove-none, rows_within}
use Rattle.session.proofs.session.Session.remove.Goals as goal

pub remove_rows-requires : goal.remove_rows-requires
remove_rows-requires c =
    remove-none c.args.self.now.store.views c.args.path.now c.args.place c.args.rows c.in_ok-size.size (sym c.in_ok-size.ensures.due) c.in_ok-size.ensures.size
    (rows_within c.in_ok-size.size c.args.place c.args.rows (sym c.in_ok-left.ensures.due))

use Rattle.std.proofs.Common.{sym}
use Rattle.mk_value.specs.LiteralValues.{literal_of}
use Rattle.mk_value.specs.Values.{datum_of}
use Rattle.session.proofs.Dues.{set-none, row_within}
use Rattle.session.proofs.session.Session.set_by_key.Goals as goal

pub set_value_by_key-requires-clause-due : goal.set_value_by_key-requires-clause-due
set_value_by_key-requires-clause-due c =
    set-none c.args.self.now.store.views c.args.path.now c.args.row c.in_ok-size.size c.args.prop.now (datum_of c.in_ok-value.value) (literal_of c.args.literal.now) (sym c.in_ok-size.ensures.due) c.in_ok-size.ensures.size
    (row_within c.in_ok-size.size c.args.row (sym c.in_ok-check_row.ensures)) (sym c.in_ok-check_value_of.ensures) c.in_ok-value.ensures.whole

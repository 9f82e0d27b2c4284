-- What is answered whatever viewers may be asked.
use Rattle.std.proofs.Common.{map, sym, subst}
use Rattle.cmd_text.specs.declared.command.Command.{Command}
use Rattle.session.specs.Answered.{Answered}
use Rattle.session.proofs.session.Session.dispatch.Goals as goal

pub returns-in-Rollback : goal.returns-in-Rollback
returns-in-Rollback g c =
    let viewers = map g.V.Viewer.meaning c.args.viewers.now in
    subst (λ (x : Command). Answered viewers x c.args.self.now c.rollback.result c.rollback.new.self) (sym c.in-Rollback.is) (c.rollback.ensures viewers)

pub returns-in-Add : goal.returns-in-Add
returns-in-Add g c =
    let viewers = map g.V.Viewer.meaning c.args.viewers.now in
    subst (λ (x : Command). Answered viewers x c.args.self.now c.answer_add.result c.answer_add.new.self) (sym c.in-Add.is) (c.answer_add.ensures viewers)

pub returns-in-Insert : goal.returns-in-Insert
returns-in-Insert g c =
    let viewers = map g.V.Viewer.meaning c.args.viewers.now in
    subst (λ (x : Command). Answered viewers x c.args.self.now c.answer_insert.result c.answer_insert.new.self) (sym c.in-Insert.is) (c.answer_insert.ensures viewers)

pub returns-in-Set : goal.returns-in-Set
returns-in-Set g c =
    let viewers = map g.V.Viewer.meaning c.args.viewers.now in
    subst (λ (x : Command). Answered viewers x c.args.self.now c.answer_set.result c.answer_set.new.self) (sym c.in-Set.is) (c.answer_set.ensures viewers)

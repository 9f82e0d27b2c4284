use Rattle.std.proofs.Common.{◌≡◌, map, ap, sym, subst, ◌∙◌}
use Rattle.std.specs.Prelude.{IfOk, OnOk}
use Rattle.cmd_text.specs.declared.reply.Reply.TheVariants.{Refused}
use Rattle.session.specs.Commands.{computed_size, with_computation}
use Rattle.session.specs.Naming.{computed_due}
use Rattle.session.specs.Refusals.{AnswersDue}
use Rattle.session.proofs.Putting.{computed_answered, memory_answered, watch_answered}
use Rattle.session.proofs.session.Session.watch.Goals as goal

pub returns-in-Err : goal.returns-in-Err
returns-in-Err g c =
    memory_answered (map g.V.Viewer.meaning c.args.viewers.now) c.args.self.now c.args.name.now c.args.expr.now c.refused.result
    (c.refused.ensures.value ∙ ap Refused c.of_memory.ensures) c.refused.ensures.one_line c.refused.ensures.short

pub returns-in-Some : goal.returns-in-Some
returns-in-Some g c =
    let viewers = map g.V.Viewer.meaning c.args.viewers.now in
    let w = c.args.self.now in
    let name = c.args.name.now in
    let shows = c.in-Some.shows in
    let put = c.put_computed in
    let source = c.operand.ensures in
    computed_answered viewers w put.new.self name c.args.expr.now shows put.result c.count.result (sym c.in-Ok.ensures.shows ∙ c.in-Some.is)
    (subst (λ n. AnswersDue (computed_due viewers w name n shows) put.result) source put.ensures.due)
    (subst (λ n. IfOk put.result (λ size. size ≡ computed_size viewers w n shows)) source put.ensures.size)
    (subst (λ n. OnOk put.result (put.new.self ≡ with_computation w name n shows)) source put.ensures.ok)
    put.ensures.err c.count.ensures.value c.count.ensures.short

pub returns-in-None : goal.returns-in-None
returns-in-None g c =
    let put = c.put_watch in
    watch_answered (map g.V.Viewer.meaning c.args.viewers.now) c.args.self.now put.new.self c.args.name.now c.args.expr.now put.result c.count-in-None.result
    (sym c.in-Ok.ensures.shows ∙ c.in-None.is)
    put.ensures.due put.ensures.size put.ensures.ok put.ensures.err c.count-in-None.ensures.value c.count-in-None.ensures.short

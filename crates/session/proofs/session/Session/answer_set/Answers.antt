use Rattle.std.proofs.Common.{ap, refl}
use Rattle.cmd_text.specs.declared.command.Command.TheVariants as commands
use Rattle.mk_value.specs.Conversions.{becomes}
use Rattle.mk_value.specs.LiteralValues.{literal_of}
use Rattle.session.specs.Commands.{changed, set_in}
use Rattle.session.specs.Keyed.{mapping_as, set_line}
use Rattle.session.specs.Refusals.{set_due}
use Rattle.session.specs.Values.{domain_named, schema_named}
use Rattle.session.specs.World.{with_line}
use Rattle.session.proofs.Answering.{done_answered}
use Rattle.session.proofs.session.Session.answer_set.Goals as goal

pub returns-in-Some : goal.returns-in-Some
returns-in-Some c = λ viewers.
    let w = c.args.self.now in
    let route = c.args.path.now in
    let row = c.args.row in
    let prop = c.args.prop.now in
    let literal = literal_of c.args.literal.now in
    let m = mapping_as route c.in-Some.keys in
    done_answered viewers (commands.Set route row prop c.args.literal.now) w c.set_by_key.new.self refl (set_due w.store.views route row prop literal)
    (set_line m w route row prop (becomes literal (domain_named (schema_named w.store.views route) prop))) c.set_by_key.result c.done.result
    (ap (λ o. set_in o w route row prop literal) c.in-Some.ensures) c.set_by_key.ensures.due c.set_by_key.ensures.ok c.set_by_key.ensures.err c.done.ensures.value c.done.ensures.short

pub returns-in-None : goal.returns-in-None
returns-in-None c = λ viewers.
    let w = c.args.self.now in
    let route = c.args.path.now in
    let row = c.args.row in
    let prop = c.args.prop.now in
    let literal = literal_of c.args.literal.now in
    done_answered viewers (commands.Set route row prop c.args.literal.now) w c.set.new.self refl (set_due w.store.views route row prop literal)
    (with_line w (changed w.store.views route row prop literal) route.name 1) c.set.result c.done-in-None.result
    (ap (λ o. set_in o w route row prop literal) c.in-None.ensures) c.set.ensures.due c.set.ensures.ok c.set.ensures.err c.done-in-None.ensures.value c.done-in-None.ensures.short

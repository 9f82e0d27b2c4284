use Rattle.std.proofs.Common.{◌+◌, ap, refl}
use Rattle.cmd_text.specs.declared.command.Command.TheVariants as commands
use Rattle.session.specs.Commands.{events_at, insert_in, inserted}
use Rattle.session.specs.Keyed.{insert_by_key_due, mapping_as, put_by_key, put_line, row_for, size_by_key}
use Rattle.session.specs.Refusals.{insert_due}
use Rattle.session.specs.Values.{size_named}
use Rattle.session.specs.World.{with_line}
use Rattle.session.proofs.Answering.{count_answered}
use Rattle.session.proofs.session.Session.answer_insert.Goals as goal

pub returns-in-Some : goal.returns-in-Some
returns-in-Some c = λ viewers.
    let w = c.args.self.now in
    let route = c.args.path.now in
    let place = c.args.place in
    let copies = c.args.copies in
    let literals = c.args.literals.now in
    let m = mapping_as route c.in-Some.keys in
    let row = row_for w.store.views route literals in
    let e = put_by_key m w.store.views route place row in
    count_answered viewers (commands.Insert route place copies literals) w c.insert_by_key.new.self refl (insert_by_key_due m w.store.views route place copies literals)
    (size_by_key copies e (size_named w.store.views route)) (put_line w route copies row e) c.insert_by_key.result c.count.result
    (ap (λ o. insert_in o w route place copies literals) c.in-Some.ensures) c.insert_by_key.ensures.due c.insert_by_key.ensures.size c.insert_by_key.ensures.ok c.insert_by_key.ensures.err
    c.count.ensures.value c.count.ensures.short

pub returns-in-None : goal.returns-in-None
returns-in-None c = λ viewers.
    let w = c.args.self.now in
    let route = c.args.path.now in
    let place = c.args.place in
    let copies = c.args.copies in
    let literals = c.args.literals.now in
    count_answered viewers (commands.Insert route place copies literals) w c.insert.new.self refl (insert_due w.store.views route place copies literals) (size_named w.store.views route + copies)
    (with_line w (inserted w.store.views route place copies literals) route.name (events_at route.steps copies)) c.insert.result c.count-in-None.result
    (ap (λ o. insert_in o w route place copies literals) c.in-None.ensures) c.insert.ensures.due c.insert.ensures.size c.insert.ensures.ok c.insert.ensures.err c.count-in-None.ensures.value c.count-in-None.ensures.short

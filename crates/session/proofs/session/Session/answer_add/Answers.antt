use Rattle.std.proofs.Common.{ap, refl}
use Rattle.cmd_text.specs.declared.command.Command.TheVariants as commands
use Rattle.keyed_views.specs.Keyed.{home_of}
use Rattle.session.specs.Commands.{add_in, inserted}
use Rattle.session.specs.Keyed.{add_by_key_due, mapping_as, put_by_key, put_line, row_for}
use Rattle.session.specs.Refusals.{add_due}
use Rattle.session.specs.Values.{size_named}
use Rattle.session.specs.World.{with_line}
use Rattle.session.proofs.Answering.{count_answered}
use Rattle.session.proofs.session.Session.answer_add.Goals as goal

pub returns-in-Some : goal.returns-in-Some
returns-in-Some c = λ viewers.
    let w = c.args.self.now in
    let route = c.args.path.now in
    let literals = c.args.literals.now in
    let m = mapping_as route c.in-Some.keys in
    let row = row_for w.store.views route literals in
    let e = put_by_key m w.store.views route (size_named w.store.views route) row in
    count_answered viewers (commands.Add route literals) w c.add_by_key.new.self refl (add_by_key_due m w.store.views route literals) (home_of e) (put_line w route 1 row e) c.add_by_key.result c.count.result
    (ap (λ o. add_in o w route literals) c.in-Some.ensures) c.add_by_key.ensures.due c.add_by_key.ensures.place c.add_by_key.ensures.ok c.add_by_key.ensures.err c.count.ensures.value c.count.ensures.short

pub returns-in-None : goal.returns-in-None
returns-in-None c = λ viewers.
    let w = c.args.self.now in
    let route = c.args.path.now in
    let literals = c.args.literals.now in
    let size = size_named w.store.views route in
    count_answered viewers (commands.Add route literals) w c.add.new.self refl (add_due w.store.views route literals) size (with_line w (inserted w.store.views route size 1 literals) route.name 1) c.add.result c.count-in-None.result
    (ap (λ o. add_in o w route literals) c.in-None.ensures) c.add.ensures.due c.add.ensures.place c.add.ensures.ok c.add.ensures.err c.count-in-None.ensures.value c.count-in-None.ensures.short

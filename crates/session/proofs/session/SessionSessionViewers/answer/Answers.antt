use Rattle.std.proofs.Common.{map, sym, ap, ◌∙◌, ◌++◌}
use Rattle.cmd_text.specs.Replies.{reply_bytes}
use Rattle.cmd_text.specs.declared.reply.Reply.TheVariants.{Quit}
use Rattle.lines.specs.Served.{state_of}
use Rattle.host_io.proofs.Moments.{weaker}
use Rattle.session.proofs.Known.{known_step}
use Rattle.session.proofs.Machines.{ready, steady, within}
use Rattle.session.proofs.Stepped.{quiet_of_blank, step_of_blank, step_of_quit}
use Rattle.session.proofs.session.SessionSessionViewers.answer.Goals as goal

pub returns-then-is_quit-clause-answers : goal.returns-then-is_quit-clause-answers
returns-then-is_quit-clause-answers g c = λ tells.
    step_of_quit (Unit {0}) (map g.V.Viewer.meaning c.args.context.now.list.now) (state_of c.args.self.now (g.H.Disk.outside c.args.host.now)) c.args.line.now c.say_quit.new.out.bytes (sym c.if-is_quit.ensures)
    (c.say_quit.ensures.bytes ∙ ap (λ front. front ++ reply_bytes Quit) c.requires.empty)

pub returns-then-is_blank-clause-answers : goal.returns-then-is_blank-clause-answers
returns-then-is_blank-clause-answers g c = λ tells.
    step_of_blank (Unit {0}) (map g.V.Viewer.meaning c.args.context.now.list.now) (state_of c.args.self.now (g.H.Disk.outside c.args.host.now)) c.args.line.now c.args.out.now.bytes (sym c.if-is_blank.ensures) c.requires.empty

pub returns-then-is_blank-clause-quiet : goal.returns-then-is_blank-clause-quiet
returns-then-is_blank-clause-quiet g c = λ tells empty image.
    quiet_of_blank (state_of c.args.self.now (g.H.Disk.outside c.args.host.now)) c.args.line.now image (sym c.if-is_blank.ensures)

pub returns-clause-answers : goal.returns-clause-answers
returns-clause-answers g c = λ tells.
    known_step tells (state_of c.args.self.now (g.H.Disk.outside c.args.host.now)) (state_of c.answer_line.new.self (g.H.Disk.outside c.answer_line.new.host)) (map g.V.Viewer.meaning c.args.context.now.list.now) c.args.line.now c.answer_line.new.out.bytes
    c.answer_line.ensures.step

pub answer_line-requires-clause-ready : goal.answer_line-requires-clause-ready
answer_line-requires-clause-ready g c = λ tells.
    steady (map g.V.Viewer.meaning c.args.context.now.list.now) (state_of c.args.self.now (g.H.Disk.outside c.args.host.now)) (c.requires.ready tells)

pub returns-clause-ready : goal.returns-clause-ready
returns-clause-ready g c = λ tells.
    ready (map g.V.Viewer.meaning c.args.context.now.list.now) (state_of c.answer_line.new.self (g.H.Disk.outside c.answer_line.new.host)) (c.answer_line.ensures.goes tells).ready

pub returns-clause-moments : goal.returns-clause-moments
returns-clause-moments g c = λ tells.
    weaker (λ at h. within (map g.V.Viewer.meaning c.args.context.now.list.now) (state_of c.args.self.now (g.H.Disk.outside c.args.host.now)) c.args.line.now (g.H.Disk.outside c.args.host.now).now.said at h)
    (c.answer_line.ensures.goes tells).moments

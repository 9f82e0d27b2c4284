use Rattle.std.proofs.Common.{map, ap, subst, ◌∙◌, ◌++◌}
use Rattle.std.proofs.lemmas.Bool.{false≢true}
use Rattle.cmd_text.specs.Lines.{Reads}
use Rattle.cmd_text.specs.Replies.{reply_bytes}
use Rattle.cmd_text.specs.declared.reply.Reply.TheVariants.{Refused}
use Rattle.lines.specs.Served.{state_of}
use Rattle.session.specs.Lines.{is_blank}
use Rattle.session.proofs.Readings.{not_so, of_line, reads_blank}
use Rattle.session.proofs.Stepped.{line_goes, step_of_command, step_of_error}
use Rattle.session.proofs.session.Session.answer_line.Goals as goal

pub answer_command-requires-clause-line : goal.answer_command-requires-clause-line
answer_command-requires-clause-line g c = of_line c.args.line.now c.in-Ok.command c.in-Ok.ensures.reads c.requires.short

pub answer_command-requires-clause-asks : goal.answer_command-requires-clause-asks
answer_command-requires-clause-asks g c = λ e.
    not_so (is_blank c.args.line.now) c.requires.asks (reads_blank c.args.line.now (subst (Reads c.args.line.now) e c.in-Ok.ensures.reads))

pub returns-in-Ok-clause-step : goal.returns-in-Ok-clause-step
returns-in-Ok-clause-step g c =
    let from = g.H.Disk.outside c.args.host.now in
    let to = g.H.Disk.outside c.answer_command.new.host in
    step_of_command g.H.Disk.tells (map g.V.Viewer.meaning c.args.viewers.now) (state_of c.args.self.now from) (state_of c.answer_command.new.self to) c.args.line.now c.answer_command.new.out.bytes c.in-Ok.command c.in-Ok.ensures.reads
    c.answer_command.ensures.carried

pub returns-in-Ok-clause-goes : goal.returns-in-Ok-clause-goes
returns-in-Ok-clause-goes g c = λ tells.
    let from = g.H.Disk.outside c.args.host.now in
    let to = g.H.Disk.outside c.answer_command.new.host in
    line_goes (state_of c.args.self.now from) (state_of c.answer_command.new.self to) from to c.args.line.now c.in-Ok.command c.in-Ok.ensures.reads (c.answer_command.ensures.goes tells)

pub returns-in-Err-clause-step : goal.returns-in-Err-clause-step
returns-in-Err-clause-step g c =
    let from = g.H.Disk.outside c.args.host.now in
    step_of_error g.H.Disk.tells (map g.V.Viewer.meaning c.args.viewers.now) (state_of c.args.self.now from) c.args.line.now c.refuse.new.out.bytes c.in-Err.error
    (λ command one reads. false≢true (c.in-Err.ensures.in_place command one reads)) c.in-Err.ensures.refused
    (c.refuse.ensures.bytes ∙ ap (λ front. front ++ reply_bytes (Refused c.of_reading.result)) c.requires.empty ∙ ap (λ r. reply_bytes (Refused r)) c.of_reading.ensures)

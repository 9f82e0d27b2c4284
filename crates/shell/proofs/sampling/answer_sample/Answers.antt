use Rattle.std.proofs.Common.{ℕ, List, ◌++◌, ◌∙◌, map, ap, sym, inl, inr}
use Rattle.lines.specs.Served.{state_of}
use Rattle.sample.specs.Lines.{sample_lines}
use Rattle.session.proofs.Machines.{ready, steady}
use Rattle.session.specs.Step.{machine}
use Rattle.session.specs.World.{view_size}
use Rattle.shell.specs.Ran.{sample_view}
use Rattle.shell.specs.Said.{sample_line}
use Rattle.shell.proofs.Quitting.{goes_on_after_verbs}
use Rattle.shell.proofs.Outcomes.{accepted_of, of_ok, refused_of}
use Rattle.shell.proofs.sampling.answer_sample.Goals as goal

pub answer_all-requires-clause-goes_on : goal.answer_all-requires-clause-goes_on
answer_all-requires-clause-goes_on g c = goes_on_after_verbs (map g.V.Viewer.meaning c.args.viewers.now)

pub answer_all-requires-clause-ready : goal.answer_all-requires-clause-ready
answer_all-requires-clause-ready g c = λ tells. ready (map g.V.Viewer.meaning c.args.viewers.now) (state_of c.args.session.now (g.H.Disk.outside c.args.host.now)) (c.requires.ready tells)

pub returns-then-is_err-clause-outcome : goal.returns-then-is_err-clause-outcome
returns-then-is_err-clause-outcome g c = λ tells.
    let viewers = map g.V.Viewer.meaning c.args.viewers.now in
    let old = state_of c.args.session.now (g.H.Disk.outside c.args.host.now) in
    let last = state_of c.answer_all.new.session (g.H.Disk.outside c.answer_all.new.host) in
    let lines = sample_lines c.args.asked.number c.args.asked.edits in
    let answers = c.answer_all.ensures.comes tells in
    inr (refused_of (machine viewers) old last lines c.answer_all.new.out.bytes c.answer_all.result (sym c.if-is_err.ensures.value) (rw c.new-lines.ensures at answers.comes))

pub returns-then-is_err-clause-ready : goal.returns-then-is_err-clause-ready
returns-then-is_err-clause-ready g c = λ tells. steady (map g.V.Viewer.meaning c.args.viewers.now) (state_of c.answer_all.new.session (g.H.Disk.outside c.answer_all.new.host)) (c.answer_all.ensures.ready tells)

pub returns-clause-outcome : goal.returns-clause-outcome
returns-clause-outcome g c = λ tells.
    let viewers = map g.V.Viewer.meaning c.args.viewers.now in
    let old = state_of c.args.session.now (g.H.Disk.outside c.args.host.now) in
    let last = state_of c.answer_all.new.session (g.H.Disk.outside c.answer_all.new.host) in
    let lines = sample_lines c.args.asked.number c.args.asked.edits in
    let answers = c.answer_all.ensures.comes tells in
    let result = c.answer_all.result in
    let fine = sym c.if-is_err.ensures.value in
    let edits = c.args.asked.edits in
    let clear = of_ok result fine c.answer_all.ensures.clear in
    inl (
      accepted_of (machine viewers) old last lines c.answer_all.new.out.bytes result fine (rw c.new-lines.ensures at answers.comes),
      c.write_sample.ensures.bytes ∙ ap (λ (front : List ℕ). front ++ sample_line edits c.rows_of_sample.result c.number.result) clear.empty
          ∙ ap (λ (n : ℕ). sample_line edits n c.number.result) c.rows_of_sample.ensures ∙ ap (sample_line edits (view_size c.answer_all.new.session sample_view)) c.number.ensures.value,
    )

pub returns-clause-ready : goal.returns-clause-ready
returns-clause-ready g c = λ tells. steady (map g.V.Viewer.meaning c.args.viewers.now) (state_of c.answer_all.new.session (g.H.Disk.outside c.answer_all.new.host)) (c.answer_all.ensures.ready tells)

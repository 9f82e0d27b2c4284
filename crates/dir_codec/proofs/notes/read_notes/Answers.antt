use Rattle.std.proofs.Common.{◌+◌, ◌-◌, arith}
use Rattle.std.proofs.lemmas.Result.{err_from_is_err_and}
use Rattle.dir_codec.proofs.NoteLists.{begins, count_flaw, ends, flaw_after, grows}
use Rattle.dir_codec.proofs.notes.read_notes.Goals as goal

pub returns-in_err-count : goal.returns-in_err-count
returns-in_err-count c = λ end.
    let p = err_from_is_err_and c.from_residual.result c.from_residual.ensures.1 in
    rw (p.1, p.2) (count_flaw c.args.number end c.args.bytes.now c.args.at _ c.requires c.in_err-count.ensures)

pub loop-done-init : goal.loop-done-init
loop-done-init c = rw c.new-notes.ensures (begins c.args.number c.args.bytes.now c.in_ok-count.count c.args.at c.in_ok-count.ensures)

pub returns-in_err-note : goal.returns-in_err-note
returns-in_err-note c = λ end.
    let p = err_from_is_err_and c.from_residual-in_err-note.result c.from_residual-in_err-note.ensures.1 in
    let count = c.in_ok-count.count in
    let done = c.loop-done.done in
    rw (p.1, p.2) (flaw_after c.args.number end c.args.bytes.now count done c.loop-done.last c.args.at c.loop-done.place _ _ c.loop-done-test.true
    (c.loop-done.invariant.leads end) (c.in_err-note.ensures end (count - (done + 1))))

pub loop-done-preserved : goal.loop-done-preserved
loop-done-preserved c =
    let count = c.in_ok-count.count in
    let done = c.loop-done.done in
    rw c.in_ok-push.ensures.ok (grows c.args.number c.args.bytes.now count done c.loop-done.last c.args.at c.loop-done.place c.in_ok-note.next c.loop-done.notes c.in_ok-note.note c.loop-done-test.true
    c.loop-done.invariant (c.in_ok-note.ensures 0 0).0 (λ end. (c.in_ok-note.ensures end (count - (done + 1))).1))

pub returns : goal.returns
returns c = λ end.
    let is = c.in_ok-count.ensures.1 in
    ends c.args.number end c.args.bytes.now c.in_ok-count.count c.loop-done.done c.loop-done.last c.args.at c.loop-done.place c.loop-done.notes (omega arith) is.2 is.3 c.loop-done.invariant

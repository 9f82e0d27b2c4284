use Rattle.std.proofs.Common.{◌+◌, ◌-◌, arith}
use Rattle.std.proofs.lemmas.Result.{err_from_is_err_and}
use Rattle.dir_codec.proofs.ViewLists.{begins, count_flaw, ends, flaw_after, grows}
use Rattle.dir_codec.proofs.views.read_views.Goals as goal

pub returns-in_err-count : goal.returns-in_err-count
returns-in_err-count c = λ number.
    let p = err_from_is_err_and c.from_residual.result c.from_residual.ensures.1 in
    rw (p.1, p.2) (count_flaw number c.args.end c.args.bytes.now _ c.in_err-count.ensures)

pub loop-done-init : goal.loop-done-init
loop-done-init c = rw c.new-views.ensures (begins c.args.end c.args.bytes.now c.in_ok-count.count c.in_ok-count.ensures)

pub returns-in_err-view : goal.returns-in_err-view
returns-in_err-view c = λ number.
    let p = err_from_is_err_and c.from_residual-in_err-view.result c.from_residual-in_err-view.ensures.1 in
    let count = c.in_ok-count.count in
    let done = c.loop-done.done in
    rw (p.1, p.2) (flaw_after number c.args.end c.args.bytes.now count c.loop-done.views done c.loop-done.place _ c.loop-done-test.true c.loop-done.invariant
    (rw c.as_slice.ensures at (c.in_err-view.ensures number (count - (done + 1)))))

pub loop-done-preserved : goal.loop-done-preserved
loop-done-preserved c =
    let count = c.in_ok-count.count in
    let done = c.loop-done.done in
    let view = rw c.as_slice.ensures at c.in_ok-view.ensures in
    rw c.in_ok-push.ensures.ok (grows c.args.end c.args.bytes.now count c.loop-done.views c.in_ok-view.view done c.loop-done.place c.in_ok-view.next c.loop-done-test.true c.loop-done.invariant
    (view 0 0).0 (view 0 0).1 (λ number. (view number (count - (done + 1))).2))

pub returns : goal.returns
returns c = λ number.
    ends number c.args.end c.args.bytes.now c.in_ok-count.count c.loop-done.views c.loop-done.done c.loop-done.place (omega arith) c.in_ok-count.ensures.1.3 c.loop-done.invariant

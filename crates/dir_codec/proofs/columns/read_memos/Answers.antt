use Rattle.std.proofs.Common.{◌+◌, ◌-◌, refl, arith}
use Rattle.std.proofs.lemmas.Result.{err_from_is_err_and}
use Rattle.dir_codec.specs.Dir.{IsMemo}
use Rattle.dir_codec.specs.Parts.{spelled_memos}
use Rattle.dir_codec.proofs.MemoLists.{begins, flaw_after, grows, ends}
use Rattle.dir_codec.proofs.columns.read_memos.Goals as goal

pub loop-done-init : goal.loop-done-init
loop-done-init c = rw c.new-memos.ensures (record { are = tt; long = refl; from = refl; within = c.requires.within; leads = λ number. begins number c.args.end c.args.bytes.now c.args.count c.args.rows c.args.at c.requires.within })

pub returns-in_err-memo : goal.returns-in_err-memo
returns-in_err-memo c = λ number.
    let p = err_from_is_err_and c.from_residual.result c.from_residual.ensures.1 in
    rw (p.1, p.2) (flaw_after number c.args.end c.args.bytes.now c.args.count c.loop-done.done c.args.rows c.loop-done.least c.args.at c.loop-done.place (spelled_memos c.loop-done.memos) _ c.loop-done-test.true
    (c.loop-done.invariant.leads number) (c.in_err-memo.ensures number (c.args.count - (c.loop-done.done + 1))))

pub overflow_add-least : goal.overflow_add-least
overflow_add-least c = let below = (c.in_ok-memo.ensures 0 0).0.below in let fits = c.ranges.rows in omega (arith, below, fits)

pub loop-done-preserved : goal.loop-done-preserved
loop-done-preserved c =
    let memo = c.in_ok-memo.memo in
    let memos = c.loop-done.memos in
    let is : IsMemo c.args.end c.args.rows c.loop-done.least memo = (c.in_ok-memo.ensures 0 0).0 in
    rw c.in_ok-push.ensures.ok (grows c.args.end c.args.bytes.now c.args.count c.loop-done.done c.args.rows c.loop-done.least c.args.at c.loop-done.place c.in_ok-memo.next memos memo c.loop-done-test.true
    c.loop-done.invariant.are c.loop-done.invariant.long c.loop-done.invariant.from is c.loop-done.invariant.leads (λ number. (c.in_ok-memo.ensures number (c.args.count - (c.loop-done.done + 1))).1))

pub returns : goal.returns
returns c = λ number. ends number c.args.end c.args.bytes.now c.args.count c.loop-done.done c.args.rows c.loop-done.least c.args.at c.loop-done.place c.loop-done.memos (omega arith) c.loop-done.invariant.are c.loop-done.invariant.long (c.loop-done.invariant.leads number)

use Rattle.std.proofs.Common.{sym, subst, arith}
use Rattle.kept_counts.specs.Following.{Forgets}
use Rattle.kept_counts.specs.Keeping.{Counted}
use Rattle.kept_counts.proofs.Stepping.{done_more, done_none, each_done}
use Rattle.kept_counts.proofs.listed.forget_all.Goals as goal

pub loop-entry-init : goal.loop-entry-init
loop-entry-init c = done_none (Forgets c.args.view.now) c.args.list.now

pub loop-entry-preserved : goal.loop-entry-preserved
loop-entry-preserved c =
    let t = c.loop-entry-test.true in
    let is = c.entry-item.is in
    let new = c.forget.new.self in
    let R : Counted → Counted → Type 0 = Forgets c.args.view.now in
    done_more R c.args.list.now c.loop-entry.list c.loop-entry.entry-index c.entry-item.result new c.loop-entry.invariant (omega arith) is (subst (λ e. R e new) (sym is) c.forget.ensures)

pub returns : goal.returns
returns c =
    let t = c.loop-entry-test.false in
    let h = c.loop-entry.invariant in
    let l = h.long in
    each_done (Forgets c.args.view.now) c.args.list.now c.loop-entry.list c.loop-entry.entry-index h (omega arith)

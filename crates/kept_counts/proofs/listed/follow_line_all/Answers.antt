use Rattle.std.proofs.Common.{◌≡◌, true, get_or, sym, subst, arith}
use Rattle.mk_value.specs.Names.{same_bytes}
use Rattle.kept_counts.specs.Following.{Follows}
use Rattle.kept_counts.specs.Keeping.{Counted, IsCountedOver}
use Rattle.kept_counts.proofs.Stepping.{done_more, done_none, each_done}
use Rattle.kept_counts.proofs.listed.follow_line_all.Goals as goal

pub loop-entry-init : goal.loop-entry-init
loop-entry-init c = done_none (Follows c.args.view.now c.args.line.now.before.now.schema c.args.line.now.after.now.rows) c.args.list.now

pub follow_line-requires : goal.follow_line-requires
follow_line-requires c =
    let h = c.loop-entry.invariant in
    let t = c.loop-entry-test.true in
    let l = h.long in
    let i = c.loop-entry.entry-index in
    let x = c.entry-item.result in
    let line = c.args.line.now in
    let was : get_or c.loop-entry.list i x ≡ get_or c.args.list.now i x = h.rest i x (omega arith) in
    record { kept = subst (λ (e : Counted). same_bytes e.view c.args.view.now ≡ true → IsCountedOver line.before.now.schema line.before.now.rows e) (sym was) (c.requires.kept i x (omega arith)) }

pub loop-entry-preserved : goal.loop-entry-preserved
loop-entry-preserved c =
    let t = c.loop-entry-test.true in
    let is = c.entry-item.is in
    let new = c.follow_line.new.self in
    let R : Counted → Counted → Type 0 = Follows c.args.view.now c.args.line.now.before.now.schema c.args.line.now.after.now.rows in
    done_more R c.args.list.now c.loop-entry.list c.loop-entry.entry-index c.entry-item.result new c.loop-entry.invariant (omega arith) is (subst (λ e. R e new) (sym is) c.follow_line.ensures)

pub returns : goal.returns
returns c =
    let t = c.loop-entry-test.false in
    let h = c.loop-entry.invariant in
    let l = h.long in
    each_done (Follows c.args.view.now c.args.line.now.before.now.schema c.args.line.now.after.now.rows) c.args.list.now c.loop-entry.list c.loop-entry.entry-index h (omega arith)

use Rattle.std.proofs.Common.{◌≡◌, true, get_or, sym, subst, arith}
use Rattle.mk_value.specs.Names.{same_bytes}
use Rattle.watches.specs.Lines.{room_for}
use Rattle.row_edits.specs.Events.{count_all}
use Rattle.watches.specs.Groups.{Follows}
use Rattle.watches.specs.Keeping.{HasRoom, IsKeptOver, Kept}
use Rattle.watches.proofs.Stepping.{done_more, done_none, each_done}
use Rattle.watches.proofs.listed.follow_line_all.Goals as goal

pub loop-watches-init : goal.loop-watches-init
loop-watches-init c =
    let line = c.args.line.now in
    done_none (Follows c.args.view.now (count_all line.edits.now) line.before.now.schema line.after.now.rows) c.args.list.now

pub follow_line-requires-clause-kept : goal.follow_line-requires-clause-kept
follow_line-requires-clause-kept c =
    let line = c.args.line.now in
    let h = c.loop-watches.invariant in
    let t = c.loop-watches-test.true in
    let l = h.long in
    let i = c.loop-watches.watches-index in
    let x = c.watches-item.result in
    let was : get_or c.loop-watches.list i x ≡ get_or c.args.list.now i x = h.rest i x (omega arith) in
    subst (λ (k : Kept). same_bytes k.view c.args.view.now ≡ true → IsKeptOver line.before.now.schema line.before.now.rows k) (sym was) (c.requires.kept i x (omega arith))

pub follow_line-requires-clause-room : goal.follow_line-requires-clause-room
follow_line-requires-clause-room c =
    let line = c.args.line.now in
    let h = c.loop-watches.invariant in
    let t = c.loop-watches-test.true in
    let l = h.long in
    let i = c.loop-watches.watches-index in
    let x = c.watches-item.result in
    let was : get_or c.loop-watches.list i x ≡ get_or c.args.list.now i x = h.rest i x (omega arith) in
    subst (λ (k : Kept). same_bytes k.view c.args.view.now ≡ true → HasRoom (room_for line.edits.now) k) (sym was) (c.requires.room i x (omega arith))

pub loop-watches-preserved : goal.loop-watches-preserved
loop-watches-preserved c =
    let line = c.args.line.now in
    let t = c.loop-watches-test.true in
    let is = c.watches-item.is in
    let new = c.follow_line.new.self in
    let R : Kept → Kept → Type 0 = Follows c.args.view.now (count_all line.edits.now) line.before.now.schema line.after.now.rows in
    done_more R c.args.list.now c.loop-watches.list c.loop-watches.watches-index c.watches-item.result new c.loop-watches.invariant (omega arith) is (subst (λ k. R k new) (sym is) c.follow_line.ensures)

pub returns : goal.returns
returns c =
    let line = c.args.line.now in
    let t = c.loop-watches-test.false in
    let h = c.loop-watches.invariant in
    let l = h.long in
    each_done (Follows c.args.view.now (count_all line.edits.now) line.before.now.schema line.after.now.rows) c.args.list.now c.loop-watches.list c.loop-watches.watches-index h (omega arith)

use Rattle.std.proofs.Common.{◌≡◌, true, get_or, sym, subst, arith}
use Rattle.mk_value.specs.Names.{same_bytes}
use Rattle.live.specs.Edits.{room_of}
use Rattle.watches.specs.Groups.{Notes}
use Rattle.watches.specs.Keeping.{HasRoom, IsKeptOver, Kept}
use Rattle.watches.proofs.Stepping.{done_more, done_none, each_done}
use Rattle.watches.proofs.listed.note_all.Goals as goal

pub loop-watches-init : goal.loop-watches-init
loop-watches-init c = done_none (Notes c.args.view.now c.args.rows.now.schema c.args.rows.now.rows c.args.edit) c.args.list.now

pub note-requires-clause-kept : goal.note-requires-clause-kept
note-requires-clause-kept c =
    let h = c.loop-watches.invariant in
    let t = c.loop-watches-test.true in
    let l = h.long in
    let i = c.loop-watches.watches-index in
    let x = c.watches-item.result in
    let was : get_or c.loop-watches.list i x ≡ get_or c.args.list.now i x = h.rest i x (omega arith) in
    subst (λ (k : Kept). same_bytes k.view c.args.view.now ≡ true → IsKeptOver c.args.rows.now.schema c.args.rows.now.rows k) (sym was) (c.requires.kept i x (omega arith))

pub note-requires-clause-room : goal.note-requires-clause-room
note-requires-clause-room c =
    let h = c.loop-watches.invariant in
    let t = c.loop-watches-test.true in
    let l = h.long in
    let i = c.loop-watches.watches-index in
    let x = c.watches-item.result in
    let was : get_or c.loop-watches.list i x ≡ get_or c.args.list.now i x = h.rest i x (omega arith) in
    subst (λ (k : Kept). same_bytes k.view c.args.view.now ≡ true → HasRoom (room_of c.args.edit) k) (sym was) (c.requires.room i x (omega arith))

pub loop-watches-preserved : goal.loop-watches-preserved
loop-watches-preserved c =
    let t = c.loop-watches-test.true in
    let is = c.watches-item.is in
    let new = c.note.new.self in
    let R : Kept → Kept → Type 0 = Notes c.args.view.now c.args.rows.now.schema c.args.rows.now.rows c.args.edit in
    done_more R c.args.list.now c.loop-watches.list c.loop-watches.watches-index c.watches-item.result new c.loop-watches.invariant (omega arith) is (subst (λ k. R k new) (sym is) c.note.ensures)

pub returns : goal.returns
returns c =
    let t = c.loop-watches-test.false in
    let h = c.loop-watches.invariant in
    let l = h.long in
    each_done (Notes c.args.view.now c.args.rows.now.schema c.args.rows.now.rows c.args.edit) c.args.list.now c.loop-watches.list c.loop-watches.watches-index h (omega arith)

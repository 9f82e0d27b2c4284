use Rattle.std.proofs.Common.{◌≡◌, true, get_or, sym, subst, arith}
use Rattle.mk_value.specs.Names.{same_bytes}
use Rattle.row_edits.specs.Events.{count_of}
use Rattle.watches.specs.Groups.{Follows}
use Rattle.watches.specs.Keeping.{HasNoted, Kept}
use Rattle.watches.proofs.Stepping.{done_more, done_none, each_done}
use Rattle.watches.proofs.listed.follow_all.Goals as goal

pub loop-watches-init : goal.loop-watches-init
loop-watches-init c = done_none (Follows c.args.view.now (count_of c.args.edit) c.args.rows.now.schema c.args.rows.now.rows) c.args.list.now

pub follow-requires : goal.follow-requires
follow-requires c =
    let h = c.loop-watches.invariant in
    let t = c.loop-watches-test.true in
    let l = h.long in
    let i = c.loop-watches.watches-index in
    let x = c.watches-item.result in
    let was : get_or c.loop-watches.list i x ≡ get_or c.args.list.now i x = h.rest i x (omega arith) in
    let before = c.requires.noted.0 in
    record { noted = λ named. (before, subst (λ (k : Kept). same_bytes k.view c.args.view.now ≡ true → HasNoted c.args.rows.now.schema before c.args.edit k) (sym was) (c.requires.noted.1 i x (omega arith)) named, c.requires.noted.2) }

pub loop-watches-preserved : goal.loop-watches-preserved
loop-watches-preserved c =
    let t = c.loop-watches-test.true in
    let is = c.watches-item.is in
    let new = c.follow.new.self in
    let R : Kept → Kept → Type 0 = Follows c.args.view.now (count_of c.args.edit) c.args.rows.now.schema c.args.rows.now.rows in
    done_more R c.args.list.now c.loop-watches.list c.loop-watches.watches-index c.watches-item.result new c.loop-watches.invariant (omega arith) is (subst (λ k. R k new) (sym is) c.follow.ensures)

pub returns : goal.returns
returns c =
    let t = c.loop-watches-test.false in
    let h = c.loop-watches.invariant in
    let l = h.long in
    each_done (Follows c.args.view.now (count_of c.args.edit) c.args.rows.now.schema c.args.rows.now.rows) c.args.list.now c.loop-watches.list c.loop-watches.watches-index h (omega arith)

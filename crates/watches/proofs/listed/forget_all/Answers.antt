use Rattle.std.proofs.Common.{◌≡◌, true, get_or, sym, subst, arith}
use Rattle.mk_value.specs.Names.{same_bytes}
use Rattle.watches.specs.Groups.{Forgets}
use Rattle.watches.specs.Keeping.{HasNoted, Kept}
use Rattle.watches.proofs.Stepping.{done_more, done_none, each_done}
use Rattle.watches.proofs.listed.forget_all.Goals as goal

pub loop-watches-init : goal.loop-watches-init
loop-watches-init c = done_none (Forgets c.args.view.now) c.args.list.now

pub forget-requires : goal.forget-requires
forget-requires c =
    let h = c.loop-watches.invariant in
    let t = c.loop-watches-test.true in
    let l = h.long in
    let i = c.loop-watches.watches-index in
    let x = c.watches-item.result in
    let was : get_or c.loop-watches.list i x ≡ get_or c.args.list.now i x = h.rest i x (omega arith) in
    subst (λ (k : Kept). same_bytes k.view c.args.view.now ≡ true → HasNoted c.args.rows.now.schema c.args.rows.now.rows c.args.edit k) (sym was) (c.requires i x (omega arith))

pub loop-watches-preserved : goal.loop-watches-preserved
loop-watches-preserved c =
    let t = c.loop-watches-test.true in
    let is = c.watches-item.is in
    let new = c.forget.new.self in
    let R : Kept → Kept → Type 0 = Forgets c.args.view.now in
    done_more R c.args.list.now c.loop-watches.list c.loop-watches.watches-index c.watches-item.result new c.loop-watches.invariant (omega arith) is (subst (λ k. R k new) (sym is) c.forget.ensures)

pub returns : goal.returns
returns c =
    let t = c.loop-watches-test.false in
    let h = c.loop-watches.invariant in
    let l = h.long in
    each_done (Forgets c.args.view.now) c.args.list.now c.loop-watches.list c.loop-watches.watches-index h (omega arith)

use Rattle.std.proofs.Common.{◌+◌, refl, sym, subst, arith}
use Rattle.watches.specs.Groups.{IsReserved, Stays}
use Rattle.watches.specs.Keeping.{Kept}
use Rattle.watches.proofs.Stepping.{done_more, done_none, each_part, each_weaker}
use Rattle.watches.proofs.listed.reserve_all.Goals as goal

pub loop-watches-init : goal.loop-watches-init
loop-watches-init c = done_none (IsReserved c.args.view.now c.args.more) c.args.list.now

pub loop-watches-preserved : goal.loop-watches-preserved
loop-watches-preserved c =
    let e = c.in_ok-reserve.ensures in
    let t = c.loop-watches-test.true in
    let is = c.watches-item.is in
    let new = c.reserve.new.self in
    done_more (IsReserved c.args.view.now c.args.more) c.args.list.now c.loop-watches.list c.loop-watches.watches-index c.watches-item.result new c.loop-watches.invariant (omega arith) is
    (record { stays = subst (λ k. Stays k new) (sym is) e.stays; room = e.room })

pub returns-in_err-reserve-clause-stay : goal.returns-in_err-reserve-clause-stay
returns-in_err-reserve-clause-stay c =
    let e = c.in_err-reserve.ensures in
    let t = c.loop-watches-test.true in
    let is = c.watches-item.is in
    let new = c.reserve.new.self in
    let old = c.args.list.now in
    let stays : (k : Kept) → Stays k k = λ k. record { same = refl; kept = λ schema rows h. h } in
    let before = each_weaker (IsReserved c.args.view.now c.args.more) old Stays c.loop-watches.list c.loop-watches.watches-index (λ a b r. r.stays) c.loop-watches.invariant in
    let more = done_more Stays old c.loop-watches.list c.loop-watches.watches-index c.watches-item.result new before (omega arith) is (subst (λ k. Stays k new) (sym is) e.stays) in
    each_part Stays old _ (c.loop-watches.watches-index + 1) more stays

pub returns-clause-stay : goal.returns-clause-stay
returns-clause-stay c =
    let t = c.loop-watches-test.false in
    let h = c.loop-watches.invariant in
    let l = h.long in
    let stays : (k : Kept) → Stays k k = λ k. record { same = refl; kept = λ schema rows h. h } in
    each_part Stays c.args.list.now c.loop-watches.list c.loop-watches.watches-index
    (each_weaker (IsReserved c.args.view.now c.args.more) c.args.list.now Stays c.loop-watches.list c.loop-watches.watches-index (λ a b r. r.stays) h) stays

pub returns-clause-room : goal.returns-clause-room
returns-clause-room c =
    let t = c.loop-watches-test.false in
    let h = c.loop-watches.invariant in
    let l = h.long in
    λ k d p. (h.done k d (omega arith) (omega arith)).room

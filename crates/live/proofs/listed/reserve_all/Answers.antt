use Rattle.std.proofs.Common.{◌≤◌, arith, ap, sym, subst, ◌∙◌}
use Rattle.live.specs.Chains.{IsSame}
use Rattle.live.specs.States.{WatchState}
use Rattle.live.proofs.Room.{reserved_less, reserved_more, reserved_none}
use Rattle.live.proofs.listed.reserve_all.Goals as goal

pub loop-watch-init : goal.loop-watch-init
loop-watch-init c = reserved_none c.args.more c.args.watches.now

pub loop-watch-preserved : goal.loop-watch-preserved
loop-watch-preserved c =
    let e = c.in_ok-reserve.ensures in
    let t = c.loop-watch-test.true in
    let is = c.watch-item.is in
    let new = c.reserve.new.self in
    reserved_more c.args.more c.args.watches.now c.loop-watch.watches c.loop-watch.watch-index c.loop-watch.invariant (omega arith) c.watch-item.result new is (subst (λ w. IsSame w new) (sym is) e.same) (e.going ∙ ap (λ (w : WatchState). w.going) (sym is)) (subst (λ (w : WatchState). w.room ≤ new.room) (sym is) e.grown) e.room

pub returns-in_err-reserve-clause-same : goal.returns-in_err-reserve-clause-same
returns-in_err-reserve-clause-same c =
    let e = c.in_err-reserve.ensures in
    let t = c.loop-watch-test.true in
    let is = c.watch-item.is in
    let new = c.reserve.new.self in
    let h = reserved_less c.args.more c.args.watches.now c.loop-watch.watches c.loop-watch.watch-index c.loop-watch.invariant (omega arith) c.watch-item.result new is (subst (λ w. IsSame w new) (sym is) e.same) (e.going ∙ ap (λ (w : WatchState). w.going) (sym is)) (subst (λ (w : WatchState). w.room ≤ new.room) (sym is) e.grown) in
    h.same

pub returns-in_err-reserve-clause-going : goal.returns-in_err-reserve-clause-going
returns-in_err-reserve-clause-going c =
    let e = c.in_err-reserve.ensures in
    let t = c.loop-watch-test.true in
    let is = c.watch-item.is in
    let new = c.reserve.new.self in
    let h = reserved_less c.args.more c.args.watches.now c.loop-watch.watches c.loop-watch.watch-index c.loop-watch.invariant (omega arith) c.watch-item.result new is (subst (λ w. IsSame w new) (sym is) e.same) (e.going ∙ ap (λ (w : WatchState). w.going) (sym is)) (subst (λ (w : WatchState). w.room ≤ new.room) (sym is) e.grown) in
    h.going

pub returns-in_err-reserve-clause-grown : goal.returns-in_err-reserve-clause-grown
returns-in_err-reserve-clause-grown c =
    let e = c.in_err-reserve.ensures in
    let t = c.loop-watch-test.true in
    let is = c.watch-item.is in
    let new = c.reserve.new.self in
    let h = reserved_less c.args.more c.args.watches.now c.loop-watch.watches c.loop-watch.watch-index c.loop-watch.invariant (omega arith) c.watch-item.result new is (subst (λ w. IsSame w new) (sym is) e.same) (e.going ∙ ap (λ (w : WatchState). w.going) (sym is)) (subst (λ (w : WatchState). w.room ≤ new.room) (sym is) e.grown) in
    h.grown

pub returns : goal.returns
returns c =
    let h = c.loop-watch.invariant in
    let t = c.loop-watch-test.false in
    let l = h.same.long in
    record { same = h.same; going = h.going; grown = h.grown; room = λ k d p. h.room k d (omega arith) }

use Rattle.std.proofs.Common.{◌≡◌, true, get_or, sym, subst, arith}
use Rattle.std.specs.Option.{ForSome}
use Rattle.mk_value.specs.Names.{same_bytes}
use Rattle.kept_counts.specs.Following.{FollowsOn}
use Rattle.kept_counts.specs.Keeping.{Counted, HasNoted}
use Rattle.kept_counts.proofs.Stepping.{done_more, done_none, each_done}
use Rattle.kept_counts.proofs.listed.follow_all.Goals as goal

pub loop-entry-init : goal.loop-entry-init
loop-entry-init c = done_none (FollowsOn c.args.view.now c.args.rows.now.schema c.args.rows.now.rows) c.args.list.now

pub follow-requires : goal.follow-requires
follow-requires c =
    let h = c.loop-entry.invariant in
    let t = c.loop-entry-test.true in
    let l = h.long in
    let i = c.loop-entry.entry-index in
    let x = c.entry-item.result in
    let was : get_or c.loop-entry.list i x ≡ get_or c.args.list.now i x = h.rest i x (omega arith) in
    let before = c.requires.noted.0 in
    record { noted = λ named. (before, subst (λ (e : Counted). same_bytes e.view c.args.view.now ≡ true → ForSome e.kept (HasNoted c.args.rows.now.schema before c.args.edit)) (sym was) (c.requires.noted.1 i x (omega arith)) named, c.requires.noted.2) }

pub loop-entry-preserved : goal.loop-entry-preserved
loop-entry-preserved c =
    let t = c.loop-entry-test.true in
    let is = c.entry-item.is in
    let new = c.follow.new.self in
    let R : Counted → Counted → Type 0 = FollowsOn c.args.view.now c.args.rows.now.schema c.args.rows.now.rows in
    done_more R c.args.list.now c.loop-entry.list c.loop-entry.entry-index c.entry-item.result new c.loop-entry.invariant (omega arith) is (subst (λ e. R e new) (sym is) c.follow.ensures)

pub returns : goal.returns
returns c =
    let t = c.loop-entry-test.false in
    let h = c.loop-entry.invariant in
    let l = h.long in
    each_done (FollowsOn c.args.view.now c.args.rows.now.schema c.args.rows.now.rows) c.args.list.now c.loop-entry.list c.loop-entry.entry-index h (omega arith)

use Rattle.std.proofs.Common.{◌≡◌, false, ap, refl, sym, subst, ◌∙◌}
use Rattle.cmd_text.specs.Replies.{reply_bytes}
use Rattle.cmd_text.specs.declared.command.Command.TheVariants as commands
use Rattle.lines.specs.Served.{state_of}
use Rattle.storage.specs.Stored.{Stored, committed, failed, is_shut}
use Rattle.view_store.proofs.Editing.{by_answer}
use Rattle.watches.specs.Keeping.{AreKept}
use Rattle.watches.proofs.Holding.{kept_where_same}
use Rattle.kept_counts.specs.Keeping.{AreCounted}
use Rattle.kept_counts.proofs.Holding.{counted_where_same}
use Rattle.keyed_views.specs.Keeping.{AreKept as AreMapped}
use Rattle.keyed_views.proofs.Holding.{kept_where_same as mapped_where_same}
use Rattle.session.proofs.Watched.{commit_same}
use Rattle.session.specs.Carried.{Carried}
use Rattle.session.specs.Going.{GoesOn}
use Rattle.session.specs.Planning.{IsPlannedNext}
use Rattle.watches.specs.Keeping.{followed}
use Rattle.keyed_views.specs.Keeping.{mapped}
use Rattle.session.specs.World.{World, with_store}
use Rattle.session.proofs.OnDisk.{commit_failed, commit_goes, commit_goes_wrong, commit_made}
use Rattle.session.proofs.session.Session.commit.Goals.{in-Ok-carry, in-Err-carry}
use Rattle.session.proofs.session.Session.commit.Goals as goal

pub returns-clause-carried : goal.returns-clause-carried
returns-clause-carried g c = λ viewers.
    let from = g.H.Disk.outside c.args.host.now in
    let to = g.H.Disk.outside c.carry.new.disk in
    let inside : World = record { store = c.self.inside.store; snapshots = c.self.inside.snapshots; cursors = c.self.inside.cursors; watches = followed c.self.inside.watches; computed = c.self.inside.computed; mappings = mapped c.self.inside.mappings } in
    let new : World = with_store inside c.carry.new.self in
    let note = c.args.note.now in
    let reply = reply_bytes c.match-carry.result in
    let unshut : is_shut inside.store ≡ false = subst (λ (w : World). is_shut w.store ≡ false) (sym c.self.view_is) c.requires.«open» in
    let planned : IsPlannedNext inside.store note c.in-Ok.plan = subst (λ (w : World). IsPlannedNext w.store note c.in-Ok.plan) (sym c.self.view_is) c.in-Ok.ensures.planned in
    subst (λ (w : World). Carried g.H.Disk.tells viewers (commands.Commit note) (state_of w from) reply (state_of new to)) c.self.view_is
    (elim c.match-carry.branch [
      | in-Ok-carry w ↦
          let e = w.in-Ok-carry.ensures in
          commit_made g.H.Disk.tells viewers inside note reply unshut c.in-Ok.plan planned new from to e.counts.disk.later w.in-Ok-carry.number e.number
          (ap reply_bytes (w.result-is ∙ w.committed.ensures.value)) (ap (with_store inside) e.ok) e.commits
      | in-Err-carry w ↦
          let e = w.in-Err-carry.ensures in
          commit_failed g.H.Disk.tells viewers inside note reply unshut c.in-Ok.plan planned new from to e.counts.disk.later w.in-Err-carry.field-0
          (ap reply_bytes (w.result-is ∙ w.refused-in-Err-carry.ensures.value)) (ap (with_store inside) e.err) (e.counts.disk.cause refl) e.commits
    ])

pub returns-clause-goes : goal.returns-clause-goes
returns-clause-goes g c = λ tells.
    let from = g.H.Disk.outside c.args.host.now in
    let to = g.H.Disk.outside c.carry.new.disk in
    let inside : World = record { store = c.self.inside.store; snapshots = c.self.inside.snapshots; cursors = c.self.inside.cursors; watches = followed c.self.inside.watches; computed = c.self.inside.computed; mappings = mapped c.self.inside.mappings } in
    let new : World = with_store inside c.carry.new.self in
    let note = c.args.note.now in
    let unshut : is_shut inside.store ≡ false = subst (λ (w : World). is_shut w.store ≡ false) (sym c.self.view_is) c.requires.«open» in
    let planned : IsPlannedNext inside.store note c.in-Ok.plan = subst (λ (w : World). IsPlannedNext w.store note c.in-Ok.plan) (sym c.self.view_is) c.in-Ok.ensures.planned in
    subst (λ (w : World). GoesOn (commands.Commit note) (state_of w from) (state_of new to) from to) c.self.view_is
    (elim c.match-carry.branch [
      | in-Ok-carry w ↦
          let e = w.in-Ok-carry.ensures in
          commit_goes inside note unshut c.in-Ok.plan planned new from to w.in-Ok-carry.number (ap (with_store inside) e.ok) (e.rests tells) (e.commits tells)
      | in-Err-carry w ↦
          let e = w.in-Err-carry.ensures in
          commit_goes_wrong inside note unshut c.in-Ok.plan planned new from to w.in-Err-carry.field-0 (ap (with_store inside) e.err) (e.commits tells)
    ])

pub invariant_of-self : goal.invariant_of-self
invariant_of-self g c =
    let store = c.self.inside.store in
    let note = c.args.note.now in
    let next = c.in-Ok.plan.next in
    let planned : IsPlannedNext store note c.in-Ok.plan = subst (λ (w : World). IsPlannedNext w.store note c.in-Ok.plan) (sym c.self.view_is) c.in-Ok.ensures.planned in
    by_answer (λ (s : Stored). (AreKept s.views c.self.inside.watches × AreCounted s.views c.self.inside.counted) × AreMapped s.views c.self.inside.mappings) c.carry.result c.carry.new.self (failed store next) (committed store next) c.carry.ensures.ok c.carry.ensures.err (
      (
        kept_where_same store.views next.views c.self.inside.watches (commit_same store note c.in-Ok.plan planned.next) c.self.invariant.0.0,
        counted_where_same store.views next.views c.self.inside.counted (commit_same store note c.in-Ok.plan planned.next) c.self.invariant.0.1,
      ),
      mapped_where_same store.views next.views c.self.inside.mappings (commit_same store note c.in-Ok.plan planned.next) c.self.invariant.1,
    )
    c.self.invariant

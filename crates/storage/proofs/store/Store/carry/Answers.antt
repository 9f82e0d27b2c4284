use Rattle.std.proofs.Common.{Err, Ok, subst}
use Rattle.commit_plan.specs.Plans.{Planned}
use Rattle.recovery.specs.Commits.{Commit}
use Rattle.storage.specs.Committing.{Commits}
use Rattle.storage.proofs.Committed.{commits_answered, commits_refused}
use Rattle.storage.proofs.store.Store.carry.Goals as goal

pub returns-in-Ok-clause-commits : goal.returns-in-Ok-clause-commits
returns-in-Ok-clause-commits g c = λ tells.
    let s = c.args.self.now in
    let from = g.D.Disk.outside c.args.disk.now in
    let to = g.D.Disk.outside c.write_commit.new.disk in
    commits_answered s c.args.plan from to c.in-Ok.field-0 c.put_committed.result
    (subst (λ (k : Commit). let p : Planned = record { next = k; writes = c.args.plan.writes } in Commits s p from to (Ok c.in-Ok.field-0)) c.next.ensures (c.in-Ok.ensures.commits tells))

pub returns-in-Err-clause-commits : goal.returns-in-Err-clause-commits
returns-in-Err-clause-commits g c = λ tells.
    let s = c.args.self.now in
    let from = g.D.Disk.outside c.args.disk.now in
    let to = g.D.Disk.outside c.write_commit.new.disk in
    commits_refused s c.args.plan from to c.in-Err.error
    (subst (λ (k : Commit). let p : Planned = record { next = k; writes = c.args.plan.writes } in Commits {T = Unit {0}} s p from to (Err c.in-Err.error)) c.next.ensures (c.in-Err.ensures.commits tells))

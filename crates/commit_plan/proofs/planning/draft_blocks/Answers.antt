use Rattle.std.proofs.Common.{◌+◌, ◌≤◌, length, map, ◌∙◌, sym, subst, arith}
use Rattle.recovery.specs.Commits.{plain_views}
use Rattle.recovery.specs.Keeping.{commit_in}
use Rattle.commit_plan.specs.Following.{blocks_due, commit_spans}
use Rattle.commit_plan.specs.Payloads.{payload_bytes}
use Rattle.commit_plan.specs.Placing.{LeaveSame}
use Rattle.commit_plan.proofs.NextCommit.{block_passes, drafted_are, lens_due}
use Rattle.commit_plan.proofs.planning.draft_blocks.Goals as goal

pub returns-in-Some-clause-drafted : goal.returns-in-Some-clause-drafted
returns-in-Some-clause-drafted c =
    let room = c.in_ok-reserve.ensures.ok in
    let count = c.len.ensures in
    let enough : length c.in_ok-payloads.payloads.items + 1 ≤ c.reserve.new.self.spare = omega (arith, room, count) in
    drafted_are (commit_in c.args.kept.now) c.args.views.now c.in_ok-payloads.payloads.items c.deref.result.now c.in_ok-free.free c.reserve.new.self c.place_all.new.free c.in-Some.spans.items
    c.deref.ensures.value c.in_ok-payloads.ensures c.in_ok-free.ensures.used c.in_ok-reserve.ensures.used (rw c.in-Some.is at c.in_ok-spans.ensures.put) enough

pub returns-in-None-clause-passes : goal.returns-in-None-clause-passes
returns-in-None-clause-passes c = λ note.
    block_passes c.args.floor (commit_in c.args.kept.now) c.args.views.now note (map (λ p. length (payload_bytes p)) c.deref.result.now) c.reserve.new.self
    (c.in_ok-reserve.ensures.floor ∙ c.in_ok-free.ensures.floor)
    (subst (λ u. LeaveSame u (commit_spans (commit_in c.args.kept.now))) (sym c.in_ok-reserve.ensures.used) c.in_ok-free.ensures.used)
    (lens_due c.in_ok-payloads.payloads.items c.deref.result.now (blocks_due (plain_views c.args.views.now)) c.deref.ensures.value c.in_ok-payloads.ensures)
    (rw c.in-None.is at c.in_ok-spans.ensures.passes)

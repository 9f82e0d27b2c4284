use Rattle.std.proofs.Common.{length, Some, subst}
use Rattle.std.specs.Prelude.{OnOk}
use Rattle.commit_marks.specs.declared.mark.Marks.{Marks}
use Rattle.commit_marks.specs.Marks.{other_slot}
use Rattle.commit_plan.specs.Plans.{Planned}
use Rattle.commit_writes.specs.Carrying.{Carries}
use Rattle.commit_writes.specs.Phases.{IsAtRest}
use Rattle.commit_writes.proofs.Writers.{sound_begins}
use Rattle.recovery.specs.Commits.{footprint_of, mark_of}
use Rattle.recovery.specs.Keeping.{commit_in}
use Rattle.storage.specs.Stored.{Stored}
use Rattle.storage.proofs.Committed.{CarriesOut, commits_of, ready_for, rests_of}
use Rattle.storage.proofs.store.Store.write_commit.Goals as goal

pub carry-requires-clause-begins : goal.carry-requires-clause-begins
carry-requires-clause-begins g c = λ tells.
    sound_begins (footprint_of c.args.self.now.kept) (footprint_of (commit_in c.args.next.now)) (g.B.WritesBlocks.blocks c.args.blocks.now)
    (length (g.D.Disk.outside c.args.disk.now).now.disk.seen) c.requires.sound (c.requires.rests tells).holds.within

pub returns-clause-commits : goal.returns-clause-commits
returns-clause-commits g c = λ tells.
    let s = c.args.self.now in
    let next = commit_in c.args.next.now in
    let blocks = g.B.WritesBlocks.blocks c.args.blocks.now in
    let from = g.D.Disk.outside c.args.disk.now in
    let to = g.D.Disk.outside c.carry.new.disk in
    let ready = ready_for s next blocks c.marks.result c.mark_of.result from.now.disk c.marks.ensures.marks c.mark_of.ensures c.requires.sound (c.requires.rests tells) in
    let planned : Planned = record { next = next; writes = blocks } in
    commits_of s planned from to c.carry.result c.marks.ensures.whole c.requires.whole
    (subst (λ (m : Marks). Carries (footprint_of s.kept) (footprint_of next) m.slot m.other blocks from to c.carry.result) c.marks.ensures.marks
    (c.carry.ensures.carries tells (footprint_of s.kept) (footprint_of next) ready))

pub returns-clause-rests : goal.returns-clause-rests
returns-clause-rests g c = λ tells.
    let s = c.args.self.now in
    let next = commit_in c.args.next.now in
    let blocks = g.B.WritesBlocks.blocks c.args.blocks.now in
    let from = g.D.Disk.outside c.args.disk.now in
    let to = g.D.Disk.outside c.carry.new.disk in
    let ready = ready_for s next blocks c.marks.result c.mark_of.result from.now.disk c.marks.ensures.marks c.mark_of.ensures c.requires.sound (c.requires.rests tells) in
    let planned : Planned = record { next = next; writes = blocks } in
    rests_of s planned from to c.carry.result
    (subst (λ (m : Marks). Carries (footprint_of s.kept) (footprint_of next) m.slot m.other blocks from to c.carry.result) c.marks.ensures.marks
    (c.carry.ensures.carries tells (footprint_of s.kept) (footprint_of next) ready))

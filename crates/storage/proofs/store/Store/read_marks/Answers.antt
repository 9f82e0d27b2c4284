use Rattle.std.proofs.Common.{ap}
use Rattle.std.proofs.lemmas.Result.{err_from_is_err_and}
use Rattle.commit_marks.proofs.Chosen.{marks_unique}
use Rattle.recovery.specs.Commits.{mark_of}
use Rattle.recovery.specs.Opening.{cause_of_marks}
use Rattle.storage.proofs.Marked.{marked-refusal, resting_marks}
use Rattle.storage.proofs.store.Store.read_marks.Goals as goal

pub returns-in_err-read_marks-clause-refused : goal.returns-in_err-read_marks-clause-refused
returns-in_err-read_marks-clause-refused g c = λ tells.
    let p = err_from_is_err_and c.from_residual.result c.from_residual.ensures.1 in
    let s = c.args.self.now in
    let disk = (g.D.Disk.outside c.args.disk.now).now.disk in
    rw (p.1, p.2) (ap cause_of_marks (marked-refusal disk.seen s.slot (mark_of s.kept) s.other (resting_marks s disk (c.requires.rests tells)) c.in_err-read_marks.field-0.0 (c.in_err-read_marks.ensures.gives tells)))

pub returns-clause-other : goal.returns-clause-other
returns-clause-other g c = λ tells.
    let s = c.args.self.now in
    let m = c.in_ok-read_marks.field-0 in
    (marks_unique (g.D.Disk.outside c.args.disk.now).now.disk.seen m.slot s.slot m.chosen (mark_of s.kept) m.other s.other (c.in_ok-read_marks.ensures.gives tells).chooses (c.requires.rests tells).chooses).2

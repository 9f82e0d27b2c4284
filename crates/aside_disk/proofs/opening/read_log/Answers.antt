use Rattle.std.proofs.Common.{subst, List, ℕ, Option, MatchOption, Err}
use Rattle.std.proofs.lemmas.Result.{err_from_is_err_and}
use Rattle.aside_disk.specs.declared.error.BaseRecord.{BaseRecord}
use Rattle.aside_disk.specs.Logical.{IsBased}
use Rattle.aside_disk.specs.Opening.{Walks}
use Rattle.aside_disk.proofs.Walked.{looks_joins, seen_same}
use Rattle.aside_disk.proofs.Openings.{no_log, no_marks}
use Rattle.aside_disk.proofs.opening.read_log.Goals as goal

pub returns-in_err-marks-clause-reads : goal.returns-in_err-marks-clause-reads
returns-in_err-marks-clause-reads g c = λ tells.
    let p = err_from_is_err_and c.from_residual.result c.from_residual.ensures.1 in
    rw (p.1, p.2) (no_marks _ c.args.given.now _ (c.in_err-marks.ensures.gives tells))

pub returns-in_err-len-clause-reads : goal.returns-in_err-len-clause-reads
returns-in_err-len-clause-reads g c = λ tells.
    let p = err_from_is_err_and c.from_residual-in_err-len.result c.from_residual-in_err-len.ensures.1 in
    let marks = c.in_ok-marks.ensures in
    let base = c.in_ok-kept.ensures in
    let found = subst (λ (o : Option BaseRecord). MatchOption o
    ((kept : BaseRecord) → ¬ IsBased kept (g.D.Disk.outside c.read_log_marks.new.disk).now.disk.seen)
    (λ kept. IsBased kept (g.D.Disk.outside c.read_log_marks.new.disk).now.disk.seen)) c.in-Some.is (base.gives tells) in
    rw (p.1, p.2) (no_log (g.D.Disk.outside c.args.disk.now).now.disk.seen c.args.given.now c.in-Some.kept c.in_ok-marks.marks.slot c.in_ok-marks.marks.chosen c.in_ok-marks.marks.other c.in_err-len.field-0.0
    (marks.gives tells)
    (subst (λ (l : List ℕ). IsBased c.in-Some.kept l) (seen_same (marks.same tells)) found)
    (subst (λ (l : List ℕ). Walks l c.in-Some.kept.length c.in_ok-marks.marks.chosen.end (Err c.in_err-len.field-0.0)) (seen_same (looks_joins (marks.same tells) (base.same tells))) (c.in_err-len.ensures.walks tells)))

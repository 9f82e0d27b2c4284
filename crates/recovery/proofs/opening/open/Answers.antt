use Rattle.std.proofs.lemmas.Result.{err_from_is_err_and}
use Rattle.recovery.proofs.Refused.{by_marks}
use Rattle.recovery.proofs.opening.open.Goals as goal

pub returns-in_err-marks-clause-refused : goal.returns-in_err-marks-clause-refused
returns-in_err-marks-clause-refused g c = λ tells.
    let p = err_from_is_err_and c.from_residual.result c.from_residual.ensures.1 in
    rw (p.1, p.2) (by_marks (g.D.Disk.outside c.args.disk.now).now.disk.seen c.in_err-marks.field-0.0 (c.in_err-marks.ensures.gives tells))

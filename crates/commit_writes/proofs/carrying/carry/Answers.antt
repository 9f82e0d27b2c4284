use Rattle.std.proofs.Common.{ap}
use Rattle.std.proofs.lemmas.Result.{err_from_is_err_and}
use Rattle.commit_writes.proofs.Steps.{opened_last, unless_closed, unless_filled}
use Rattle.commit_writes.proofs.carrying.carry.Goals as goal

pub returns-in_err-close_other-clause-carries : goal.returns-in_err-close_other-clause-carries
returns-in_err-close_other-clause-carries g c = λ tells old after ready.
    let p = err_from_is_err_and c.from_residual.result c.from_residual.ensures.1 in
    rw p.1 (unless_closed (g.D.Disk.outside c.args.disk.now) ready (λ none. ap g.D.Disk.outside (c.in_err-close_other.ensures.closed none).1) (c.in_err-close_other.ensures.closes tells))

pub returns-in_err-fill_behind-clause-carries : goal.returns-in_err-fill_behind-clause-carries
returns-in_err-fill_behind-clause-carries g c = λ tells old after ready.
    let p = err_from_is_err_and c.from_residual-in_err-fill_behind.result c.from_residual-in_err-fill_behind.ensures.1 in
    rw p.1 (unless_filled (g.D.Disk.outside c.args.disk.now) ready (λ none. ap g.D.Disk.outside (c.in_ok-close_other.ensures.closed none).1) (c.in_ok-close_other.ensures.closes tells) (c.in_err-fill_behind.ensures.fills tells))

pub returns-clause-carries : goal.returns-clause-carries
returns-clause-carries g c = λ tells old after ready.
    opened_last (g.D.Disk.outside c.args.disk.now) ready c.open_gate.result (λ none. ap g.D.Disk.outside (c.in_ok-close_other.ensures.closed none).1) (c.in_ok-close_other.ensures.closes tells) (c.in_ok-fill_behind.ensures.fills tells) (c.open_gate.ensures.writes tells)

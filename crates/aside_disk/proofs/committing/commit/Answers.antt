use Rattle.std.proofs.Common.{ap, refl}
use Rattle.std.proofs.lemmas.Result.{err_from_is_err_and}
use Rattle.aside_disk.proofs.Steps.{commits_so, goes_joins, is_closed, is_filled, is_opened}
use Rattle.aside_disk.proofs.committing.commit.Goals as goal

pub returns-in_err-close_other-clause-commits : goal.returns-in_err-close_other-clause-commits
returns-in_err-close_other-clause-commits g c = λ tells kept old more due.
    let p = err_from_is_err_and c.from_residual.result c.from_residual.ensures.1 in
    let step = is_closed kept _ _ _ _ old more c.requires.low due.follows _ _ _ _ refl due.behind due.there (λ none. ap g.D.Disk.outside (c.in_err-close_other.ensures.closed none).1) (c.in_err-close_other.ensures.closes tells) in
    rw p.1 (commits_so kept _ _ _ _ old more c.requires.low due.follows _ step.goes step.phase tt)

pub returns-in_err-fill-clause-commits : goal.returns-in_err-fill-clause-commits
returns-in_err-fill-clause-commits g c = λ tells kept old more due.
    let p = err_from_is_err_and c.from_residual-in_err-fill.result c.from_residual-in_err-fill.ensures.1 in
    let first = is_closed kept _ _ _ _ old more c.requires.low due.follows _ _ _ _ refl due.behind due.there (λ none. ap g.D.Disk.outside (c.in_ok-close_other.ensures.closed none).1) (c.in_ok-close_other.ensures.closes tells) in
    let then = is_filled kept _ _ _ _ old more c.requires.low due.follows _ _ _ first.shut (c.in_err-fill.ensures.fills tells) in
    rw p.1 (commits_so kept _ _ _ _ old more c.requires.low due.follows _ (goes_joins kept _ _ _ _ old more c.requires.low due.follows first.goes then.goes) then.phase tt)

pub returns-clause-commits : goal.returns-clause-commits
returns-clause-commits g c = λ tells kept old more due.
    let first = is_closed kept _ _ _ _ old more c.requires.low due.follows _ _ _ _ refl due.behind due.there (λ none. ap g.D.Disk.outside (c.in_ok-close_other.ensures.closed none).1) (c.in_ok-close_other.ensures.closes tells) in
    let then = is_filled kept _ _ _ _ old more c.requires.low due.follows _ _ _ first.shut (c.in_ok-fill.ensures.fills tells) in
    let last = is_opened kept _ _ _ _ old more c.requires.low due.follows c.open_gate.result _ _ then.full.0 then.full.1 then.full.2 (c.open_gate.ensures.writes tells) in
    commits_so kept _ _ _ _ old more c.requires.low due.follows c.open_gate.result
    (goes_joins kept _ _ _ _ old more c.requires.low due.follows (goes_joins kept _ _ _ _ old more c.requires.low due.follows first.goes then.goes) last.0) last.1 last.2

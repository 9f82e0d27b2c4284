use Rattle.std.proofs.Common.{arith, rules}
use Rattle.aside_disk.proofs.Openings.{opened_new}
use Rattle.aside_disk.proofs.opening.open_log.Goals as goal

pub returns-clause-opens : goal.returns-clause-opens
returns-clause-opens g c = λ tells.
    let n = c.in_ok-len.ensures.length tells in
    let none = c.if-branch-gt0.false in
    opened_new c.args.given (let f = c.requires.fits in omega (arith, f)) (search rules) (c.in_ok-len.ensures.same tells) (omega (arith, n, none)) (c.in_ok-make_log.ensures.makes tells)

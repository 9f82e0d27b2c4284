use Rattle.std.proofs.Common.{◌++◌, take, length-append, length-take, Result, Err, arith, sym, subst, ℕ, ◌∙◌, ap, ◌≡◌}
use Rattle.std.proofs.lemmas.Result.{err_from_is_err_and}
use Rattle.streaming.proofs.Taken.{ended, refused_piece, takes_more}
use Rattle.streaming.specs.Taking.{ComesOfInput, ComesOfPiece}
use Rattle.streaming.specs.declared.error.LoadFault.{LoadFault}
use Rattle.streaming.specs.declared.taking.Taken.{Taken}
use Rattle.streaming.proofs.taking.take_piece.Goals as goal

pub returns-in_err-feed-clause-comes : goal.returns-in_err-feed-clause-comes
returns-in_err-feed-clause-comes g c = λ tells budget left begin short so.
    let cause = err_from_is_err_and c.from_residual-in_err-feed.result c.from_residual-in_err-feed.ensures.1 in
    let takes = c.in-Ok.ensures.takes tells in
    let new = g.H.Disk.outside c.take.new.self in
    let front = take c.in-Ok.count c.take.new.into in
    let all = takes_more c.args.loader front begin (g.H.Disk.outside c.args.host.now) new so.takes takes.came takes.still c.take.ensures.counts in
    let sizes = length-append c.args.loader front in
    let budget_is = so.budget_is in
    let few = length-take c.in-Ok.count c.take.new.into in
    let within = c.in-Ok.ensures.within in
    let refused = refused_piece budget c.args.loader front begin new c.in_err-feed.field-0.0 all (omega (arith, sizes, few, budget_is, short, within)) so.right (omega (arith, few, within, c.requires.few)) c.in_err-feed.ensures.refused in
    subst (λ (r : Result Taken LoadFault). ComesOfPiece budget left begin new r) (sym cause.1) (subst (λ (e : LoadFault). ComesOfInput budget begin new (Err e)) (sym cause.2) refused)

pub returns-in_err-finish-clause-comes : goal.returns-in_err-finish-clause-comes
returns-in_err-finish-clause-comes g c = λ tells budget left begin short so.
    let told = err_from_is_err_and c.from_residual.result c.from_residual.ensures.1 in
    let takes = c.in-Ok.ensures.takes tells in
    let mid = g.H.Disk.outside c.args.host.now in
    let new = g.H.Disk.outside c.take.new.self in
    let none : c.in-Ok.count ≡ 0 = omega (arith, c.if-count-eq0.true) in
    let came : mid.input ≡ new.input = takes.came ∙ ap (λ (n : ℕ). take n c.take.new.into ++ new.input) none in
    let budget_is = so.budget_is in
    let fault = c.in_err-finish.field-0.0 in
    let comes = ended budget c.args.loader begin mid new fault so.takes (omega (arith, budget_is)) so.right came (sym came ∙ takes.end none c.requires.some) takes.still c.take.ensures.counts c.in_err-finish.ensures in
    subst (λ (r : Result Taken LoadFault). ComesOfPiece budget left begin new r) (sym told.1) (subst (λ (e : LoadFault). ComesOfInput budget begin new (Err e)) (sym told.2) comes)

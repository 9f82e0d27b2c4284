use Rattle.std.proofs.Common.{◌≡◌, length, take, length-take, Result, Ok, Err, arith, sym, subst, ◌∙◌}
use Rattle.std.proofs.lemmas.Result.{err_from_is_err_and}
use Rattle.streaming.specs.Taking.{ComesOfInput, ComesOfPiece, IsProgress}
use Rattle.streaming.specs.declared.taking.Taken.{Taken}
use Rattle.streaming.specs.declared.error.LoadFault.{LoadFault}
use Rattle.streaming.proofs.Taken.{has_left}
use Rattle.streaming.proofs.taking.take_stream.Goals as goal

pub overflow_sub-left : goal.overflow_sub-left
overflow_sub-left g c =
    let most = length-take c.min-most.result c.taking.piece in
    let least = c.min-most.ensures in
    let progress = subst (λ (t : Taken). IsProgress (length c.taking.loader) (length (take c.min-most.result c.taking.piece)) t) c.in-More.is c.in_ok-fed.ensures.progress in
    let few = progress.1 in
    omega (arith, most, least, few)

pub taking-preserved : goal.taking-preserved
taking-preserved g c =
    let old = g.H.Disk.outside c.args.host.now in
    let new = g.H.Disk.outside c.take_piece.new.host in
    let most = length-take c.min-most.result c.taking.piece in
    let least = c.min-most.ensures in
    let so = c.taking.invariant in
    let e = c.in_ok-fed.ensures in
    let progress = subst (λ (t : Taken). IsProgress (length c.taking.loader) (length (take c.min-most.result c.taking.piece)) t) c.in-More.is e.progress in
    let few = progress.1 in
    let grown = progress.2 in
    let first = so.count in
    let takes = so.take_faults in
    let then = e.take_faults in
    record {
      taken = λ tells.
          let come = e.comes tells c.args.budget c.taking.left old (omega (arith, most, least)) (so.taken tells) in
          let came = subst (λ (t : Taken). ComesOfPiece c.args.budget c.taking.left old new (Ok t)) c.in-More.is come in
          came.1;
      count = omega (arith, most, least, few, grown, first);
      take_faults = omega arith;
      say_faults = e.say_faults ∙ so.say_faults;
      disk_faults = e.disk_faults ∙ so.disk_faults;
      source = e.source ∙ so.source;
    }

pub returns-in_err-fed-clause-comes : goal.returns-in_err-fed-clause-comes
returns-in_err-fed-clause-comes g c = λ tells.
    let old = g.H.Disk.outside c.args.host.now in
    let new = g.H.Disk.outside c.take_piece.new.host in
    let most = length-take c.min-most.result c.taking.piece in
    let least = c.min-most.ensures in
    let came = c.in_err-fed.ensures.comes tells c.args.budget c.taking.left old (omega (arith, most, least)) (c.taking.invariant.taken tells) in
    let cause = err_from_is_err_and c.from_residual.result c.from_residual.ensures.1 in
    subst (λ (r : Result _ LoadFault). ComesOfInput c.args.budget old new r) (sym cause.1) (subst (λ (e : LoadFault). ComesOfInput c.args.budget old new (Err e)) (sym cause.2) came)

pub returns-in-All-clause-comes : goal.returns-in-All-clause-comes
returns-in-All-clause-comes g c = λ tells.
    let old = g.H.Disk.outside c.args.host.now in
    let new = g.H.Disk.outside c.take_piece.new.host in
    let most = length-take c.min-most.result c.taking.piece in
    let least = c.min-most.ensures in
    let come = c.in_ok-fed.ensures.comes tells c.args.budget c.taking.left old (omega (arith, most, least)) (c.taking.invariant.taken tells) in
    subst (λ (t : Taken). ComesOfPiece c.args.budget c.taking.left old new (Ok t)) c.in-All.is come

pub returns-clause-comes : goal.returns-clause-comes
returns-clause-comes g c = λ tells.
    let old = g.H.Disk.outside c.args.host.now in
    let now = g.H.Disk.outside c.taking.host in
    let none : c.taking.left ≡ 0 = omega (arith, c.taking-test.false) in
    c.end_budget.ensures.comes tells c.args.budget old (has_left c.args.budget c.taking.left 0 c.taking.loader old now none (c.taking.invariant.taken tells))

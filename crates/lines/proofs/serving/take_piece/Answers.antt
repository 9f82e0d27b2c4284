use Rattle.std.proofs.Common.{◌≡◌, ◌≤◌, length, take, length-take, arith}
use Rattle.lines.proofs.OneTake.{SoFar-took, SoFar-took_none}
use Rattle.lines.proofs.serving.take_piece.Goals as goal

pub returns-then-count-eq0-clause-comes : goal.returns-then-count-eq0-clause-comes
returns-then-count-eq0-clause-comes g c = λ tells start begin budget taken fits so.
    c.end_input.ensures.serves tells start begin budget taken (omega arith)
    (SoFar-took_none (g.S.Session.machine c.args.context.now) start begin _ _ _ _ _ _ taken _ so (c.in-Ok.ensures.takes tells) c.if-count-eq0.true c.in-Ok.ensures.counts)

pub returns-in-Ok-Goes-clause-comes : goal.returns-in-Ok-Goes-clause-comes
returns-in-Ok-Goes-clause-comes g c = λ tells start begin budget taken fits so.
    let took = SoFar-took (g.S.Session.machine c.args.context.now) start begin _ _ _ _ _ _ taken _ so (c.in-Ok.ensures.takes tells) c.in-Ok.ensures.counts in
    let within : c.in-Ok.count ≤ length c.args.piece.now = c.in-Ok.ensures.within in
    let size : length (take c.in-Ok.count c.take.new.into) ≡ c.in-Ok.count = omega (arith, c.take.auto.into, length-take c.in-Ok.count c.take.new.into) in
    rw (← size) (rw c.in-Ok-Goes.field-0-is at (c.in-Ok-Goes.ensures.comes tells start begin budget taken (rw size (omega arith)) took))

pub returns-in-Ok-Ends-clause-comes : goal.returns-in-Ok-Ends-clause-comes
returns-in-Ok-Ends-clause-comes g c = λ tells start begin budget taken fits so.
    let took = SoFar-took (g.S.Session.machine c.args.context.now) start begin _ _ _ _ _ _ taken _ so (c.in-Ok.ensures.takes tells) c.in-Ok.ensures.counts in
    let within : c.in-Ok.count ≤ length c.args.piece.now = c.in-Ok.ensures.within in
    let size : length (take c.in-Ok.count c.take.new.into) ≡ c.in-Ok.count = omega (arith, c.take.auto.into, length-take c.in-Ok.count c.take.new.into) in
    rw c.in-Ok-Ends.field-0-is at (c.in-Ok-Ends.ensures.comes tells start begin budget taken (rw size (omega arith)) took)

pub returns-in-Err-clause-comes : goal.returns-in-Err-clause-comes
returns-in-Err-clause-comes g c = λ tells start begin budget taken fits so.
    let took = SoFar-took (g.S.Session.machine c.args.context.now) start begin _ _ _ _ _ _ taken _ so (c.in-Ok.ensures.takes tells) c.in-Ok.ensures.counts in
    let within : c.in-Ok.count ≤ length c.args.piece.now = c.in-Ok.ensures.within in
    let size : length (take c.in-Ok.count c.take.new.into) ≡ c.in-Ok.count = omega (arith, c.take.auto.into, length-take c.in-Ok.count c.take.new.into) in
    c.in-Err.ensures.comes tells start begin budget taken (rw size (omega arith)) took

use Rattle.std.proofs.Common.{arith, sym, ◌∙◌}
use Rattle.live.proofs.Counting.{one_taken}
use Rattle.live.proofs.listed.free_number.Goals as goal

pub overflow_add-number : goal.overflow_add-number
overflow_add-number c =
    let more = one_taken c.args.watches.now c.loop-number.number c.loop-number.invariant (sym c.is_taken.ensures ∙ c.loop-number-test.true) in
    let few = c.requires in
    record { fits = omega arith }

pub loop-number-smaller : goal.loop-number-smaller
loop-number-smaller c =
    let more = one_taken c.args.watches.now c.loop-number.number c.loop-number.invariant (sym c.is_taken.ensures ∙ c.loop-number-test.true) in
    omega arith

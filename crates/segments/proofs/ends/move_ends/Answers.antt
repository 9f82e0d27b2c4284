use Rattle.std.proofs.Common.{◌≡◌, ◌+◌, ◌-◌, ◌<◌, ◌≤◌, ◌^◌, ℕ, length, arith}
use Rattle.segments.proofs.Moved.{ends_moved, end_of_rest}
use Rattle.segments.proofs.ends.move_ends.Goals as goal

pub overflow_sub-ends : goal.overflow_sub-ends
overflow_sub-ends c =
    let within : c.loop-at.at < length c.args.ends.now = omega (arith, c.loop-at.auto.ends, c.loop-at-test.true) in
    let P : ℕ → Type 0 = λ e. c.args.from ≤ e in
    omega (arith, c.loop-at.invariant.rest c.loop-at.at (omega arith), end_of_rest P c.args.ends.now c.args.after c.loop-at.at c.loop-at.auto.at within c.requires.above)

pub overflow_add-ends : goal.overflow_add-ends
overflow_add-ends c =
    let within : c.loop-at.at < length c.args.ends.now = omega (arith, c.loop-at.auto.ends, c.loop-at-test.true) in
    let P : ℕ → Type 0 = λ e. e - c.args.from + c.args.to < 2 ^ 64 in
    omega (arith, c.loop-at.invariant.rest c.loop-at.at (omega arith), end_of_rest P c.args.ends.now c.args.after c.loop-at.at c.loop-at.auto.at within c.requires.fits)

pub returns-clause-items : goal.returns-clause-items
returns-clause-items c =
    let end : c.loop-at.at ≡ length c.args.ends.now = omega (arith, c.loop-at.auto.at-end, c.loop-at-test.false) in
    ends_moved c.args.ends.now c.loop-at.ends c.args.after c.loop-at.at c.args.from c.args.to c.requires.in_range c.loop-at.auto.ends end c.loop-at.invariant

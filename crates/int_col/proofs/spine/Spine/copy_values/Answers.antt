use Rattle.std.proofs.Common.{◌-◌, length, drop, arith, rules}
use Rattle.std.proofs.lemmas.List.{places, length-take, length-drop}
use Rattle.segments.specs.Joined.{joined}
use Rattle.int_col.proofs.Lists.{copied_more}
use Rattle.int_col.proofs.spine.Spine.copy_values.Goals as goal

pub loop-done-preserved : goal.loop-done-preserved
loop-done-preserved c = (
  search (rules, places),
  copied_more (joined c.args.self.now) c.loop-done.into c.copy_some-done.new.into _ _ c.args.from c.loop-done.done c.copy_some-done.result
      c.loop-done.invariant.0
      (omega (arith, c.requires, c.copy_some-done.ensures.in_range, c.loop-done.invariant.0, c.loop-done.auto.into, length-take (length c.loop-done.into - c.loop-done.done) (drop c.loop-done.done c.loop-done.into), length-drop c.loop-done.done c.loop-done.into))
      c.copy_some-done.ensures.values c.loop-done.invariant.1,
)

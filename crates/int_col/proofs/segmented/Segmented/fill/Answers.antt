use Rattle.std.proofs.Common.{◌-◌, arith, length, drop, rules}
use Rattle.std.proofs.lemmas.List.{places, length-take, length-drop}
use Rattle.bit_pack.specs.Packed.{packing}
use Rattle.bit_pack.proofs.Parts.{length-packing}
use Rattle.segments.specs.Joined.{joined}
use Rattle.int_col.proofs.Lists.{copied_more}
use Rattle.int_col.proofs.segmented.Segmented.fill.Goals as goal

pub loop-done-preserved : goal.loop-done-preserved
loop-done-preserved c =
    let within = c.requires.within in (
      search (rules, places),
      copied_more (packing c.args.width (joined c.args.self.now)) c.loop-done.into c.fill_some-done.new.into _ _ c.args.from c.loop-done.done c.fill_some-done.result
          c.loop-done.invariant.0
          (omega (arith, c.fill_some-done.ensures.in_range, c.loop-done.invariant.0, c.loop-done.auto.into, within, length-packing c.args.width (joined c.args.self.now), length-take (length c.loop-done.into - c.loop-done.done) (drop c.loop-done.done c.loop-done.into), length-drop c.loop-done.done c.loop-done.into))
          c.fill_some-done.ensures.bytes c.loop-done.invariant.1,
    )

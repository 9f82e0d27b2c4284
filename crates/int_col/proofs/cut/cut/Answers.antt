use Rattle.std.proofs.Common.{◌∷◌, [], refl, arith}
use Rattle.std.proofs.lemmas.Slice.{pushed}
use Rattle.int_col.proofs.Splices.{cut_more}
use Rattle.int_col.proofs.cut.cut.Goals as goal

pub loop-from-preserved : goal.loop-from-preserved
loop-from-preserved c =
    let more = cut_more c.loop-from.segments.items c.push.new.self.items c.args.values.now c.in_ok-shared.field-0 c.loop-from.from c.min-to.result
    c.loop-from.invariant.values c.loop-from.invariant.cuts (c.loop-from.invariant.whole c.loop-from-test.true)
    (omega (arith, c.min-to.ensures, c.loop-from-test.true)) (omega (arith, c.min-to.ensures)) (omega (arith, c.min-to.ensures))
    c.in_ok-shared.ensures (pushed (c.in_ok-shared.field-0 ∷ []) refl c.in_ok-push.was c.push.ensures.items) in
    record {
      in_range = omega (arith, c.min-to.ensures);
      values = more.0;
      cuts = more.1;
      whole = λ l. omega (arith, c.min-to.ensures, c.loop-from.invariant.whole c.loop-from-test.true);
    }

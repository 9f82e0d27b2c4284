use Rattle.std.proofs.Common.{◌∷◌, [], refl, arith}
use Rattle.std.proofs.lemmas.Slice.{pushed}
use Rattle.tables.proofs.Chunks.{cut_more}
use Rattle.tables.proofs.chunk.cut_copies.Goals as goal

pub loop-from-preserved : goal.loop-from-preserved
loop-from-preserved c =
    let more = cut_more c.loop-from.chunks.items c.push.new.self.items c.args.list.now c.in_ok-part.field-0 c.loop-from.from c.min-count.result
    c.loop-from.invariant.tables c.loop-from.invariant.some c.loop-from.invariant.few (omega (arith, c.min-count.ensures, c.loop-from-test.true))
    (omega (arith, c.min-count.ensures)) (omega (arith, c.min-count.ensures))
    c.in_ok-part.ensures (pushed (c.in_ok-part.field-0 ∷ []) refl c.in_ok-push.was c.push.ensures.items) in
    record {
      in_range = omega (arith, c.min-count.ensures);
      tables = more.0;
      some = more.1;
      few = more.2;
    }

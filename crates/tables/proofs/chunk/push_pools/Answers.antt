use Rattle.std.proofs.Common.{◌∷◌, [], refl, arith}
use Rattle.std.proofs.lemmas.Slice.{pushed}
use Rattle.tables.proofs.Adding.{adds_all, adds_none, adds_part}
use Rattle.tables.proofs.chunk.push_pools.Goals as goal

pub loop-from-init : goal.loop-from-init
loop-from-init c = record { within = omega arith; added = adds_none c.args.chunks.now.items }

pub loop-from-preserved : goal.loop-from-preserved
loop-from-preserved c =
    let part = c.in_ok-pooled_part.field-0 in
    record {
      within = omega (arith, c.min-count.ensures);
      added =
          adds_part c.args.chunks.now.items c.loop-from.chunks.items c.push.new.self.items c.args.list.now part c.loop-from.from c.min-count.result c.loop-from.invariant.added
          (pushed (part ∷ []) refl c.in_ok-push.was c.push.ensures.items) c.in_ok-pooled_part.ensures
          (omega (arith, c.min-count.ensures, c.loop-from-test.true)) (omega (arith, c.min-count.ensures)) (omega (arith, c.min-count.ensures));
    }

pub returns : goal.returns
returns c = adds_all c.args.chunks.now.items c.loop-from.chunks.items c.args.list.now c.loop-from.from c.loop-from.invariant.added (omega arith)

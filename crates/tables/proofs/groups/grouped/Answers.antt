use Rattle.std.proofs.Common.{◌+◌, ◌∷◌, [], ℕ, refl, arith}
use Rattle.std.proofs.lemmas.Slice.{pushed}
use Rattle.segments.proofs.Grouped.{grouped_more}
use Rattle.tables.proofs.groups.grouped.Goals as goal

pub loop-from-preserved : goal.loop-from-preserved
loop-from-preserved c =
    let from = c.loop-from.from in
    let to : ℕ = from + c.min.result in
    let group = c.in_ok-of.field-0 in
    let more = grouped_more c.loop-from.groups.items c.push.new.self.items c.args.chunks.now group from to
    c.loop-from.invariant.chunks c.loop-from.invariant.few (omega arith) (omega (arith, c.min.ensures, c.loop-from-test.true)) (omega (arith, c.min.ensures))
    c.in_ok-of.ensures (pushed (group ∷ []) refl c.in_ok-push.was c.push.ensures.items) in
    record {
      in_range = omega (arith, c.min.ensures, c.loop-from-test.true);
      chunks = more.0;
      few = more.1;
    }

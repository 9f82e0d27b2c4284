use Rattle.std.proofs.Common.{◌+◌, ◌∷◌, [], ℕ, refl, arith}
use Rattle.std.proofs.lemmas.Slice.{pushed}
use Rattle.segments.proofs.Grouped.{grouped_more}
use Rattle.segments.proofs.groups.grouped.Goals as goal

pub loop-from-preserved : goal.loop-from-preserved
loop-from-preserved g c =
    let from = c.loop-from.from in
    let to : ℕ = from + c.min.result in
    let group = c.in_ok-group_of.field-0 in
    let more = grouped_more c.loop-from.groups.items c.push.new.self.items c.args.parts.now group from to
    c.loop-from.invariant.parts c.loop-from.invariant.few (omega arith) (omega (arith, c.min.ensures, c.loop-from-test.true)) (omega (arith, c.min.ensures))
    c.in_ok-group_of.ensures (pushed (group ∷ []) refl c.in_ok-push.was c.push.ensures.items) in
    record {
      in_range = omega (arith, c.min.ensures, c.loop-from-test.true);
      parts = more.0;
      few = more.1;
    }

use Rattle.std.proofs.Common.{◌≡◌, ◌≤◌, ◌∷◌, [], ℤ, List, length, refl, ap, ◌∙◌, arith}
use Rattle.std.proofs.lemmas.List.{take_all}
use Rattle.std.proofs.lemmas.Slice.{pushed}
use Rattle.bit_pack.specs.Packed.{packed_len, values_from}
use Rattle.bit_pack.proofs.Changes.{length-values_from}
use Rattle.int_col.proofs.Fills.{packed_len-rises}
use Rattle.int_col.proofs.PackedCuts.{segment_packed}
use Rattle.int_col.proofs.Splices.{cut_more}
use Rattle.int_col.proofs.cut.cut_packed.Goals as goal

pub slice_bounds-part-end : goal.slice_bounds-part-end
slice_bounds-part-end c =
    let w = c.args.width in
    let n = c.args.count in
    let len : length c.args.bytes.now ≡ packed_len w n = c.requires.packed.len ∙ ap (packed_len w) (length-values_from w c.args.bytes.now 0 n) in
    let to : c.min-to.result ≤ n = omega (arith, c.min-to.ensures) in
    let from : c.loop-from.from ≤ c.min-to.result = omega (arith, c.min-to.ensures, c.loop-from-test.true) in
    omega (arith, len, packed_len-rises w c.min-to.result n to, packed_len-rises w c.loop-from.from c.min-to.result from, c.packed_len-in-loop-from.ensures, c.packed_len.ensures)

pub shared_packed-requires-clause-packed : goal.shared_packed-requires-clause-packed
shared_packed-requires-clause-packed c =
    (segment_packed c.args.width c.args.bytes.now c.args.count c.loop-from.from c.min-to.result c.packed_len.result c.packed_len-in-loop-from.result c.requires.packed
    (c.loop-from.invariant.whole c.loop-from-test.true) (omega (arith, c.loop-from-test.true)) (omega (arith, c.min-to.ensures)) c.packed_len.ensures c.packed_len-in-loop-from.ensures).0

pub loop-from-preserved : goal.loop-from-preserved
loop-from-preserved c =
    let vs : List ℤ = values_from c.args.width c.args.bytes.now 0 c.args.count in
    let n : length vs ≡ c.args.count = length-values_from c.args.width c.args.bytes.now 0 c.args.count in
    let is = c.in_ok-shared_packed.ensures
    ∙ (segment_packed c.args.width c.args.bytes.now c.args.count c.loop-from.from c.min-to.result c.packed_len.result c.packed_len-in-loop-from.result c.requires.packed
    (c.loop-from.invariant.whole c.loop-from-test.true) (omega (arith, c.loop-from-test.true)) (omega (arith, c.min-to.ensures)) c.packed_len.ensures c.packed_len-in-loop-from.ensures).1 in
    let more = cut_more c.loop-from.segments.items c.push.new.self.items vs c.in_ok-shared_packed.field-0 c.loop-from.from c.min-to.result
    c.loop-from.invariant.values c.loop-from.invariant.cuts (c.loop-from.invariant.whole c.loop-from-test.true)
    (omega (arith, c.min-to.ensures, c.loop-from-test.true)) (omega (arith, c.min-to.ensures)) (omega (arith, c.min-to.ensures, n))
    is (pushed (c.in_ok-shared_packed.field-0 ∷ []) refl c.in_ok-push.was c.push.ensures.items) in
    record {
      in_range = omega (arith, c.min-to.ensures);
      values = more.0;
      cuts = more.1;
      whole = λ l. omega (arith, c.min-to.ensures, c.loop-from.invariant.whole c.loop-from-test.true);
    }

pub returns-clause-values : goal.returns-clause-values
returns-clause-values c =
    let vs : List ℤ = values_from c.args.width c.args.bytes.now 0 c.args.count in
    c.loop-from.invariant.values ∙ take_all c.loop-from.from vs (omega (arith, c.loop-from-test.false, length-values_from c.args.width c.args.bytes.now 0 c.args.count))

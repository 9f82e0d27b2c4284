use Rattle.std.proofs.Common.{ap, arith}
use Rattle.bit_pack.specs.Packed.{packing}
use Rattle.bit_pack.proofs.Least.{least_is}
use Rattle.segments.specs.Joined.{joined}
use Rattle.int_col.proofs.packed.PackedBytes.of.Goals as goal

pub invariant_of-result : goal.invariant_of-result
invariant_of-result c = record {
  few = omega (arith, c.len-few.ensures.len, c.len-few.ensures.few);
  least = c.width.ensures;
  within = omega arith;
}

pub returns : goal.returns
returns c =
    let xs = joined c.args.segments.now in
    ap (λ w. packing w xs) (least_is c.width.result xs c.width.ensures)

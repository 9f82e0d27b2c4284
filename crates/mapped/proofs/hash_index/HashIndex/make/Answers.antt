use Rattle.std.proofs.Common.{length, ap, arith}
use Rattle.mapped.proofs.Moving.{few_ordered}
use Rattle.mapped.proofs.hash_index.HashIndex.make.Goals as goal

pub placed-requires : goal.placed-requires
placed-requires g c =
    let ordered = c.first_repeated.ensures.distinct c.in-None.is in
    let few = few_ordered c.deref-2.result.now c.deref-3.result.now ordered.ordered in
    let keys = ap length c.deref-2.ensures.value in
    let order = ap length c.deref-3.ensures.value in
    let given = ap length c.deref-in-None.ensures.value in
    let most = c.in_ok-keys.ensures.few in
    omega arith

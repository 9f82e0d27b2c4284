use Rattle.std.proofs.Common.{rules}
use Rattle.bit_pack.specs.Packed.{values_from}
use Rattle.bit_pack.proofs.LeastWidth.{least_of_none, least_by_narrower, not_least, test_negated}
use Rattle.bit_pack.proofs.Packing.{HoldsAll-values}
use Rattle.bit_pack.proofs.packed.is_least.Goals as goal

pub returns-in-None : goal.returns-in-None
returns-in-None c =
    let vs = values_from c.args.width c.args.bytes.now 0 c.args.count in
    let held = HoldsAll-values c.args.width c.args.bytes.now 0 c.args.count in
    (λ _. least_of_none c.args.width vs held c.in-None.ensures.none, λ _. search rules)

pub returns-in-Some : goal.returns-in-Some
returns-in-Some c =
    let w = c.args.width in
    let u = c.in-Some.narrower in
    let vs = values_from w c.args.bytes.now 0 c.args.count in
    let held = HoldsAll-values w c.args.bytes.now 0 c.args.count in
    test_negated c.all_held.result c.all_held.ensures (least_by_narrower u w vs c.in-Some.ensures.found held) (not_least u w vs c.in-Some.ensures.found)

use Rattle.std.proofs.Common.{◌≡◌, false, IsTrue, length, sym, subst, arith, rules}
use Rattle.bit_pack.specs.Packed.{packed_len, HasPadding}
use Rattle.bit_pack.proofs.Changes.{packed-values}
use Rattle.bit_pack.proofs.Fields.{AreBytes-by_type}
use Rattle.bit_pack.proofs.packed.check.Goals as goal

pub returns-clause-packed : goal.returns-clause-packed
returns-clause-packed c =
    let w = c.args.width in
    let n = c.args.count in
    let bytes = c.args.bytes.now in
    let octets = AreBytes-by_type bytes (λ i. (c.type_inv.bytes i).fits) in
    let len : length bytes ≡ packed_len w n = omega (arith, c.if-bytes-len.false, c.packed_len-len.ensures) in
    let clean : HasPadding w bytes n → ⊥ = λ (padding : HasPadding w bytes n).
    let set_bit : IsTrue false = subst IsTrue c.if-has_padding.false (c.has_padding.ensures.1 padding) in
    search rules in
    let least = c.is_least.ensures.0 (subst IsTrue (sym c.if-not-is_least.false) (search rules)) in
    record { packed = packed-values w n bytes octets len clean; least = least }

-- The field that changes is the digit.
use Rattle.std.proofs.Common.{◌≡◌, ℕ, ◌*◌, ◌/◌, ◌%◌, ◌^◌, pos, ◌<ℤ◌, to_z, of_z, unsigned_abs, ap, arith}
use Rattle.std.proofs.lemmas.Int.{ints}
use Rattle.std.specs.Int.{w64}
use Rattle.bit_pack.specs.declared.widths.Width.TheVariants.{W2}
use Rattle.bit_pack.specs.Packed.{residue}
use Rattle.bit_pack.proofs.Fields.{residue_unsigned, narrow_write}
use Rattle.bit_pack.proofs.lanes.Lane2Lane.write.Goals as goal

pub returns : goal.returns
returns c = λ octets.
    let v = c.args.value in
    let high : v <ℤ pos (2 ^ 2) = omega (arith, ints, c.requires.holds.high) in
    let digit : residue 2 v ≡ unsigned_abs (to_z w64 (of_z w64 v)) = residue_unsigned 2 v c.ranges.value c.requires.holds.low high in
    let placed = ap (λ (n : ℕ). 2 ^ (2 * (c.args.at % 4)) * n) digit in
    narrow_write W2 (c.args.at / 4) (2 * (c.args.at % 4)) c.args.at c.with_field.result v c.args.bytes.now (omega arith) (omega arith) (omega (arith, c.requires.reaches)) octets c.with_field.type_inv (omega (arith, c.with_field.ensures, placed))

-- The digit is a field of one byte.
use Rattle.std.proofs.Common.{◌≡◌, ◌/◌, ◌%◌, sym, ◌∙◌, arith}
use Rattle.std.proofs.lemmas.Int.{ints}
use Rattle.bit_pack.specs.declared.widths.Width.TheVariants.{W1}
use Rattle.bit_pack.specs.Packed.{AreBytes, digit_at}
use Rattle.bit_pack.proofs.Fields.{AreBytes-by_type, narrow_digit_at}
use Rattle.bit_pack.proofs.lanes.Lane1Lane.read.Goals as goal

pub returns : goal.returns
returns c =
    let bytes = c.args.bytes.now in
    let octets : AreBytes bytes = AreBytes-by_type bytes (λ i. (c.type_inv.bytes i).fits) in
    let digit : digit_at W1 bytes c.args.at ≡ c.field.result = narrow_digit_at W1 (c.args.at / 8) (c.args.at % 8) c.args.at bytes (omega arith) (omega arith) (omega (arith, c.requires)) octets ∙ sym c.field.ensures in
    omega (arith, ints, digit, c.from.ensures)

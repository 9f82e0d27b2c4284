-- The digit is one byte.
use Rattle.std.proofs.Common.{◌≡◌, ◌<◌, get_or, sym, ap, ◌∙◌, arith}
use Rattle.std.specs.Int.{cast_signed, w8}
use Rattle.std.proofs.lemmas.Int.{to_z-of_z}
use Rattle.std.specs.Int.{w64}
use Rattle.bit_pack.specs.declared.widths.Width.TheVariants.{W8}
use Rattle.bit_pack.specs.Packed.{AreBytes, digit_at}
use Rattle.bit_pack.proofs.Fields.{AreBytes-by_type, narrow_digit_at}
use Rattle.bit_pack.proofs.lanes.Lane8Lane.read.Goals as goal

pub returns : goal.returns
returns c =
    let bytes = c.args.bytes.now in
    let octets : AreBytes bytes = AreBytes-by_type bytes (λ i. (c.type_inv.bytes i).fits) in
    let small : get_or bytes c.args.at 0 < 256 = (c.type_inv.bytes c.args.at).fits in
    let digit : digit_at W8 bytes c.args.at ≡ get_or bytes c.args.at 0 = narrow_digit_at W8 c.args.at 0 c.args.at bytes (omega arith) (omega arith) (omega (arith, c.requires)) octets ∙ omega arith in
    to_z-of_z w64 c.from.result (record { sfits = c.from.type_inv }) ∙ c.from.ensures ∙ to_z-of_z w8 c.cast_signed.result (record { sfits = c.cast_signed.type_inv }) ∙ c.cast_signed.ensures ∙ ap (cast_signed w8) (sym digit)

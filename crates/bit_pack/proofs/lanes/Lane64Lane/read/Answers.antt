-- The digit is 8 bytes.
use Rattle.std.proofs.Common.{sym, ap, ◌∙◌, arith}
use Rattle.std.specs.Int.{cast_signed, w64}
use Rattle.std.proofs.lemmas.Int.{to_z-of_z}
use Rattle.bit_pack.proofs.Fields.{AreBytes-by_type, digit_of_8}
use Rattle.bit_pack.proofs.lanes.Lane64Lane.read.Goals as goal

pub returns : goal.returns
returns c =
    let bytes = c.args.bytes.now in
    let digit = digit_of_8 c.args.at bytes (omega (arith, c.requires)) (AreBytes-by_type bytes (λ i. (c.type_inv.bytes i).fits)) in
    to_z-of_z w64 c.from_le_bytes.result (record { sfits = c.from_le_bytes.type_inv }) ∙ c.from_le_bytes.ensures ∙ ap (cast_signed w64) (sym digit)

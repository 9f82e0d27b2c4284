-- The digit is one byte, which changes.
use Rattle.std.proofs.Common.{◌≡◌, ◌<◌, get_or, ◌∙◌, arith}
use Rattle.bit_pack.specs.declared.widths.Width.TheVariants.{W8}
use Rattle.bit_pack.specs.Packed.{residue}
use Rattle.bit_pack.proofs.Fields.{residue_8, narrow_write}
use Rattle.bit_pack.proofs.lanes.Lane8Lane.write.Goals as goal

pub returns : goal.returns
returns c = λ octets.
    let v = c.args.value in
    let bytes = c.args.bytes.now in
    let digit : c.cast_unsigned.result ≡ residue 8 v = c.cast_unsigned.ensures ∙ residue_8 v c.ranges.value c.requires.holds in
    let old : get_or bytes c.args.at 0 < 256 = octets c.args.at 0 (omega (arith, c.requires.reaches)) in
    narrow_write W8 c.args.at 0 c.args.at c.cast_unsigned.result v bytes (omega arith) (omega arith) (omega (arith, c.requires.reaches)) octets c.cast_unsigned.type_inv (omega (arith, digit))

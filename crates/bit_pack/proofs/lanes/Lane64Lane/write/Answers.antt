-- The digit is 8 bytes, all of which change.
use Rattle.std.proofs.Common.{◌+◌, ◌-◌, ◌*◌, ◌∙◌, to_z, of_z, arith}
use Rattle.std.specs.Int.{w64}
use Rattle.bit_pack.proofs.Fields.{residue_64, write_of_8}
use Rattle.bit_pack.proofs.lanes.Lane64Lane.write.Goals as goal

pub returns : goal.returns
returns c = λ octets.
    let v = c.args.value in
    write_of_8 c.args.at (of_z w64 (to_z w64 (of_z w64 v))) (8 * c.args.at + 8 - 8 * c.args.at) v c.args.bytes.now c.copy_from_slice.new.self (omega (arith, c.requires.reaches)) octets (c.copy_from_slice.ensures.after ∙ c.to_le_bytes.ensures) (residue_64 v c.ranges.value c.requires.holds) (omega arith)

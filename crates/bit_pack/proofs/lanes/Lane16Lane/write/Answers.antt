-- The digit is 2 bytes, all of which change.
use Rattle.std.proofs.Common.{◌+◌, ◌-◌, ◌*◌, ◌∙◌, to_z, of_z, arith}
use Rattle.std.specs.Int.{w16, w64}
use Rattle.bit_pack.proofs.Fields.{residue_16, write_of_2}
use Rattle.bit_pack.proofs.lanes.Lane16Lane.write.Goals as goal

pub returns : goal.returns
returns c = λ octets.
    let v = c.args.value in
    write_of_2 c.args.at (of_z w16 (to_z w16 (of_z w16 (to_z w64 (of_z w64 v))))) (2 * c.args.at + 2 - 2 * c.args.at) v c.args.bytes.now c.copy_from_slice.new.self (omega (arith, c.requires.reaches)) octets (c.copy_from_slice.ensures.after ∙ c.to_le_bytes.ensures) (residue_16 v c.ranges.value c.requires.holds) (omega arith)

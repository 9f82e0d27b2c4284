use Rattle.std.proofs.Common.{◌∙◌, ap}
use Rattle.bit_pack.specs.Packed.{packing}
use Rattle.bit_pack.proofs.Parts.{packing_is}
use Rattle.int_col.proofs.segmented.Segmented.pack_block.Goals as goal

pub returns : goal.returns
returns c = packing_is c.args.width c.copy_values.new.into c.pack_into.new.into c.pack_into.ensures ∙ ap (packing c.args.width) c.copy_values.ensures

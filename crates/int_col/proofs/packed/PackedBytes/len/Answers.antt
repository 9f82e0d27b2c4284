use Rattle.std.proofs.Common.{ap, arith}
use Rattle.std.proofs.lemmas.List.{length-drop}
use Rattle.bit_pack.specs.Packed.{packing, packed_len}
use Rattle.bit_pack.proofs.Parts.{length-packing}
use Rattle.segments.specs.Joined.{joined}
use Rattle.int_col.proofs.packed.PackedBytes.len.Goals as goal

pub returns : goal.returns
returns c =
    let xs = joined c.self.inside.segments.now in
    let w = c.self.inside.width in
    rw (← c.self.view_is) (omega (arith, length-drop c.self.inside.from (packing w xs), length-packing w xs, c.packed_len.ensures, ap (packed_len w) c.len.ensures.len))

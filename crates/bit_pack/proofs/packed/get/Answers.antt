use Rattle.std.proofs.Common.{Some, pos, ap, sym, ◌∙◌}
use Rattle.std.specs.Int.{w64}
use Rattle.std.proofs.lemmas.Int.{to_z-of_z}
use Rattle.std.proofs.lemmas.Option.{slice_get-get_or}
use Rattle.bit_pack.proofs.Packing.{value_at_is}
use Rattle.bit_pack.proofs.packed.get.Goals as goal

pub returns-clause-packed : goal.returns-clause-packed
returns-clause-packed c = λ vs packed within.
    let result = c.read_one.result in
    let is = to_z-of_z w64 result (record { sfits = c.read_one.type_inv }) ∙ c.read_one.ensures ∙ value_at_is c.args.width vs c.args.bytes.now c.args.at (pos 0) packed within in
    slice_get-get_or vs c.args.at (pos 0) within ∙ ap Some (sym is)

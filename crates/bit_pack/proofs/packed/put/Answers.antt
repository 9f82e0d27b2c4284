use Rattle.std.proofs.Common.{◌≡◌, ℤ, to_z, of_z, subst}
use Rattle.std.specs.Int.{w64}
use Rattle.std.proofs.lemmas.Int.{to_z-of_z}
use Rattle.bit_pack.specs.Lane.{Writes}
use Rattle.bit_pack.proofs.Changes.{packed-set}
use Rattle.bit_pack.proofs.packed.put.Goals as goal

pub returns : goal.returns
returns c = λ vs packed within.
    let w = c.args.width in
    let old = c.args.bytes.now in
    let new = c.write_one.new.bytes in
    let is : to_z w64 (of_z w64 c.args.value) ≡ c.args.value = to_z-of_z w64 c.args.value c.ranges.value in
    let written : Writes w old new c.args.at c.args.value = subst (λ (v : ℤ). Writes w old new c.args.at v) is (c.write_one.ensures packed.octets) in
    packed-set w vs old new c.args.at c.args.value packed within c.requires.holds written

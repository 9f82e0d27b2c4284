use Rattle.std.proofs.Common.{◌≡◌, ℕ, ◌*◌, ◌/◌, ◌%◌, ◌^◌, ◌<◌, ap, ◌∙◌, arith}
use Rattle.std.proofs.Math.Nat.{mod-eq_of_lt, mul_comm}
use Rattle.bit_pack.proofs.Windows.{field_in_place, new_field_in_place, field_change_fits}
use Rattle.bit_pack.proofs.lanes.with_field.Goals as goal
use Rattle.bit_pack.proofs.lanes.with_field.Goals.{After-field}

-- the field that goes, in its place
old_part : (c : After-field) → c.field.result * 2 ^ c.args.from % 256 ≡ (c.args.byte / 2 ^ c.args.from % 2 ^ c.args.bits) * 2 ^ c.args.from
old_part c =
    let in_place = field_in_place c.args.byte c.args.from c.args.bits in
    let is : c.field.result * 2 ^ c.args.from ≡ (c.args.byte / 2 ^ c.args.from % 2 ^ c.args.bits) * 2 ^ c.args.from = ap (λ (n : ℕ). n * 2 ^ c.args.from) c.field.ensures in
    let small : c.field.result * 2 ^ c.args.from < 256 = omega (arith, in_place, is) in
    mod-eq_of_lt small ∙ is

new_part : (c : After-field) → c.args.value * 2 ^ c.args.from % 256 ≡ c.args.value * 2 ^ c.args.from
new_part c = mod-eq_of_lt (new_field_in_place c.args.value c.args.from c.args.bits c.requires.within c.requires.fits)

pub overflow_sub-result : goal.overflow_sub-result
overflow_sub-result c = omega (arith, old_part c, field_in_place c.args.byte c.args.from c.args.bits)

pub overflow_add-result : goal.overflow_add-result
overflow_add-result c =
    let fits = field_change_fits c.args.byte c.args.from c.args.bits c.args.value c.requires.within c.ranges.byte.fits c.requires.fits in
    record { fits = omega (arith, old_part c, new_part c, fits) }

pub returns : goal.returns
returns c =
    let gone : 2 ^ c.args.from * (c.args.byte / 2 ^ c.args.from % 2 ^ c.args.bits) ≡ (c.args.byte / 2 ^ c.args.from % 2 ^ c.args.bits) * 2 ^ c.args.from = mul_comm (2 ^ c.args.from) (c.args.byte / 2 ^ c.args.from % 2 ^ c.args.bits) in
    let come : 2 ^ c.args.from * c.args.value ≡ c.args.value * 2 ^ c.args.from = mul_comm (2 ^ c.args.from) c.args.value in
    omega (arith, old_part c, new_part c, field_in_place c.args.byte c.args.from c.args.bits, gone, come)

use Rattle.std.proofs.Common.{ℕ, ◌-◌, ◌/◌, ◌^◌, bit_and, ap, ◌∙◌}
use Rattle.std.proofs.lemmas.Nat.{one_shl, and_mask}
use Rattle.bit_pack.proofs.lanes.field.Goals as goal

pub returns : goal.returns
returns c =
    let shifted = c.args.byte / 2 ^ c.args.from in
    ap (λ (n : ℕ). bit_and shifted (n - 1)) (one_shl c.args.bits 8 c.requires.short) ∙ and_mask shifted c.args.bits

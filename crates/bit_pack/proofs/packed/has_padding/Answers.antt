use Rattle.std.proofs.Common.{◌≡◌, ℕ, ◌*◌, ◌%◌, ◌/◌, ◌^◌, ◌-◌, length, get_or, ap, ◌∙◌, arith}
use Rattle.bit_pack.specs.Width.{bit_count}
use Rattle.bit_pack.proofs.Fields.{AreBytes-by_type}
use Rattle.bit_pack.proofs.Padding.{test_nonzero, no_padding_at_edge, padding_in_last}
use Rattle.bit_pack.proofs.packed.has_padding.Goals as goal
use Rattle.bit_pack.proofs.packed.has_padding.Goals.{After-from}

pub returns-then-used-ne0 : goal.returns-then-used-ne0
returns-then-used-ne0 c =
    let w = c.args.width in
    let n = c.args.count in
    let bytes = c.args.bytes.now in
    let used = n % 8 * c.from.result % 8 in
    let is : used ≡ n % 8 * bit_count w % 8 = ap (λ (k : ℕ). n % 8 * k % 8) (c.from.ensures ∙ c.bits.ensures) in
    let octets = AreBytes-by_type bytes (λ i. (c.type_inv.bytes i).fits) in
    let in_last = padding_in_last w n used bytes octets c.requires is (omega arith) in
    let test = test_nonzero (get_or bytes (length bytes - 1) 0 / 2 ^ used) in
    (λ e. in_last.1 (test.0 e), λ padding. test.1 (in_last.0 padding))

pub returns-else-used-ne0 : goal.returns-else-used-ne0
returns-else-used-ne0 c =
    let w = c.args.width in
    let n = c.args.count in
    let bytes = c.args.bytes.now in
    let used = n % 8 * c.from.result % 8 in
    let is : used ≡ n % 8 * bit_count w % 8 = ap (λ (k : ℕ). n % 8 * k % 8) (c.from.ensures ∙ c.bits.ensures) in
    let octets = AreBytes-by_type bytes (λ i. (c.type_inv.bytes i).fits) in
    let test = test_nonzero used in
    (λ e. let some = test.0 e in absurd (omega (arith, some, c.if-used-ne0.false)), λ padding. absurd (no_padding_at_edge w n used bytes octets c.requires is c.if-used-ne0.false padding))

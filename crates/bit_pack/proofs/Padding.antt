-- The bits past the last value, all of which stand in the last byte.
use Rattle.std.proofs.Common.{◌≡◌, ℕ, ◌+◌, ◌-◌, ◌*◌, ◌/◌, ◌%◌, ◌^◌, ◌<◌, ◌≤◌, ◌↔◌, List, [], ◌∷◌, length, get_or, drop, not, nat_eq, IsTrue, inl, inr, ap, subst, ◌∙◌, arith}
use Rattle.std.proofs.Math.Nat.{mul_comm, div-eq_of_lt, div-mul-le_self, mul-le-mul_right}
use Rattle.std.proofs.lemmas.Nat.{pow-add, pow_pos, le-div, mul-mod_first}
use Rattle.std.proofs.lemmas.Bool.{cases_lt}
use Rattle.std.proofs.lemmas.Bool.Decides.{nat_tests}
use Rattle.std.proofs.lemmas.List.{drop_more, drop_all}
use Rattle.bit_pack.specs.declared.widths.Width.{Width}
use Rattle.bit_pack.specs.Width.{bit_count}
use Rattle.bit_pack.specs.Packed.{number_of, little_endian, packed_len, AreBytes, HasPadding}
use Rattle.bit_pack.proofs.Digits.{pow-mul, number_of-lt, number_of-div}
use Rattle.bit_pack.proofs.Packing.{AreDigits-bytes}

pub test_nonzero : (x : ℕ) → IsTrue (not (nat_eq x 0)) ↔ (0 < x)
test_nonzero x = (λ e. grind (arith, nat_tests), λ p. grind (arith, nat_tests))

module _ (w : Width) (n used : ℕ) (bytes : List ℕ) (octets : AreBytes bytes) (len : length bytes ≡ packed_len w n) (is : used ≡ n % 8 * bit_count w % 8) where
  -- the bits of the last byte that values have
  used_is : used ≡ (n * bit_count w) % 8
  used_is = is ∙ mul-mod_first n (bit_count w) 8

  -- where values end at a byte's edge, no bit is left
  pub no_padding_at_edge : used ≡ 0 → HasPadding w bytes n → ⊥
  no_padding_at_edge none padding =
      let below : little_endian bytes < 256 ^ length bytes = number_of-lt 256 bytes (AreDigits-bytes bytes octets) in
      let whole : bit_count w * n ≡ 8 * length bytes = omega (arith, len, used_is, none, mul_comm (bit_count w) n) in
      let power : 2 ^ (bit_count w * n) ≡ 256 ^ length bytes = ap (λ (k : ℕ). 2 ^ k) whole ∙ pow-mul 2 8 (length bytes) in
      omega (arith, below, power, padding)

  -- else the bits that are left are the last byte's from `used` on
  pub padding_in_last : 0 < used → (HasPadding w bytes n) ↔ (0 < get_or bytes (length bytes - 1) 0 / 2 ^ used)
  padding_in_last some =
      let q = length bytes - 1 in
      let last = get_or bytes q 0 in
      let bits : bit_count w * n ≡ 8 * q + used = omega (arith, len, used_is, some, mul_comm (bit_count w) n) in
      let there : q < length bytes = omega (arith, len, used_is, some) in
      let power : 2 ^ (bit_count w * n) ≡ 2 ^ used * 256 ^ q = ap (λ (k : ℕ). 2 ^ k) bits ∙ pow-add 2 (8 * q) used ∙ ap (λ (k : ℕ). k * 2 ^ used) (pow-mul 2 8 q) ∙ mul_comm (256 ^ q) (2 ^ used) in
      let rest : drop q bytes ≡ last ∷ [] = drop_more bytes q 0 there ∙ ap (λ (xs : List ℕ). last ∷ xs) (drop_all (q + 1) bytes (omega arith)) in
      let top : little_endian bytes / 256 ^ q ≡ last = number_of-div 256 q bytes (omega arith) (AreDigits-bytes bytes octets) ∙ ap (number_of 256) rest ∙ omega arith in
      let byte : 0 < 256 ^ q = subst (λ (k : ℕ). 0 < k) (pow-mul 2 8 q) (pow_pos (8 * q)) in (
        λ padding.
            let reached : 2 ^ used * 256 ^ q ≤ little_endian bytes = omega (arith, power, padding) in
            let high : 2 ^ used ≤ little_endian bytes / 256 ^ q = le-div (2 ^ used) (little_endian bytes) (256 ^ q) byte reached in
            le-div 1 last (2 ^ used) (pow_pos used) (omega (arith, high, top)),
        λ left.
            let high : 2 ^ used ≤ last = elim (cases_lt last (2 ^ used)) [
              | inl lt ↦ absurd (omega (arith, left, div-eq_of_lt lt))
              | inr le ↦ le
            ] in
            let reached : 2 ^ used * 256 ^ q ≤ little_endian bytes / 256 ^ q * 256 ^ q = mul-le-mul_right (256 ^ q) (omega (arith, high, top)) in
            omega (arith, reached, power, div-mul-le_self (little_endian bytes) (256 ^ q)),
      )

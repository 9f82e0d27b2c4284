-- A value of a width and its residue determine each other.
use Rattle.std.proofs.Common.{◌≡◌, ℕ, ◌^◌, ◌<◌, ℤ, pos, negsuc, ap, ◌∙◌, arith}
use Rattle.std.proofs.lemmas.Int.{ints, to_z-of_z}
use Rattle.std.specs.Int.{cast_signed, cast_unsigned, w8, w16, w32, w64}
use Rattle.std.proofs.lemmas.Nat.{pow_pos}
use Rattle.bit_pack.specs.declared.widths.Width.{Width}
use Rattle.bit_pack.specs.declared.widths.Width.TheVariants.{W0, W1, W2, W4, W8, W16, W32, W64}
use Rattle.bit_pack.specs.Width.{bit_count, Holds}
use Rattle.bit_pack.specs.Packed.{residue, value_of}

pub residue-lt : (w : ℕ) (v : ℤ) → residue w v < 2 ^ w
residue-lt w (pos n) = let p = pow_pos w in omega arith
residue-lt w (negsuc n) = let p = pow_pos w in omega arith

-- the value whose residue is that of v is v
pub value_of-residue : (w : Width) (v : ℤ) → Holds w v → value_of w (residue (bit_count w) v) ≡ v
value_of-residue W0 (pos n) h = omega (arith, ints, h.low, h.high)
value_of-residue W0 (negsuc n) h = omega (arith, ints, h.low, h.high)
value_of-residue W1 (pos n) h = omega (arith, ints, h.low, h.high)
value_of-residue W1 (negsuc n) h = omega (arith, ints, h.low, h.high)
value_of-residue W2 (pos n) h = omega (arith, ints, h.low, h.high)
value_of-residue W2 (negsuc n) h = omega (arith, ints, h.low, h.high)
value_of-residue W4 (pos n) h = omega (arith, ints, h.low, h.high)
value_of-residue W4 (negsuc n) h = omega (arith, ints, h.low, h.high)
value_of-residue W8 (pos n) h = omega (arith, ints, h.low, h.high)
value_of-residue W8 (negsuc n) h =
    let small : n < 2 ^ 7 = omega (arith, ints, h.low, h.high) in
    let bits : residue 8 (negsuc n) ≡ cast_unsigned w8 (negsuc n) = omega arith in
    ap (cast_signed w8) bits ∙ to_z-of_z w8 (negsuc n) (record { sfits = small })
value_of-residue W16 (pos n) h = omega (arith, ints, h.low, h.high)
value_of-residue W16 (negsuc n) h =
    let small : n < 2 ^ 15 = omega (arith, ints, h.low, h.high) in
    let bits : residue 16 (negsuc n) ≡ cast_unsigned w16 (negsuc n) = omega arith in
    ap (cast_signed w16) bits ∙ to_z-of_z w16 (negsuc n) (record { sfits = small })
value_of-residue W32 (pos n) h = omega (arith, ints, h.low, h.high)
value_of-residue W32 (negsuc n) h =
    let small : n < 2 ^ 31 = omega (arith, ints, h.low, h.high) in
    let bits : residue 32 (negsuc n) ≡ cast_unsigned w32 (negsuc n) = omega arith in
    ap (cast_signed w32) bits ∙ to_z-of_z w32 (negsuc n) (record { sfits = small })
value_of-residue W64 (pos n) h = omega (arith, ints, h.low, h.high)
value_of-residue W64 (negsuc n) h =
    let small : n < 2 ^ 63 = omega (arith, ints, h.low, h.high) in
    let bits : residue 64 (negsuc n) ≡ cast_unsigned w64 (negsuc n) = omega arith in
    ap (cast_signed w64) bits ∙ to_z-of_z w64 (negsuc n) (record { sfits = small })

-- each residue is that of a value of the width
pub Holds-value_of : (w : Width) (d : ℕ) → d < 2 ^ bit_count w → Holds w (value_of w d)
Holds-value_of W0 d h = record { low = omega (arith, ints); high = omega (arith, ints) }
Holds-value_of W1 d h = record { low = omega (arith, ints); high = omega (arith, ints) }
Holds-value_of W2 d h = record { low = omega (arith, ints); high = omega (arith, ints) }
Holds-value_of W4 d h = record { low = omega (arith, ints); high = omega (arith, ints) }
Holds-value_of W8 d h = record { low = omega (arith, ints); high = omega (arith, ints) }
Holds-value_of W16 d h = record { low = omega (arith, ints); high = omega (arith, ints) }
Holds-value_of W32 d h = record { low = omega (arith, ints); high = omega (arith, ints) }
Holds-value_of W64 d h = record { low = omega (arith, ints); high = omega (arith, ints) }

pub residue-value_of : (w : Width) (d : ℕ) → d < 2 ^ bit_count w → residue (bit_count w) (value_of w d) ≡ d
residue-value_of W0 d h = omega arith
residue-value_of W1 d h = omega arith
residue-value_of W2 d h = omega arith
residue-value_of W4 d h = omega arith
residue-value_of W8 d h = grind (arith, ints)
residue-value_of W16 d h = grind (arith, ints)
residue-value_of W32 d h = grind (arith, ints)
residue-value_of W64 d h = grind (arith, ints)

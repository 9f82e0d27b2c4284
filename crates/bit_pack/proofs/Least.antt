-- The least width as a function of the values, and the packing by it.
use Rattle.std.proofs.Common.{◌≡◌, ◌⊎◌, ℕ, suc, ◌<◌, ◌≤◌, ◌^◌, max, Bool, ℤ, pos, negsuc, List, [], ◌∷◌, inl, inr, refl, sym, ap, subst, ◌∙◌, arith}
use Rattle.std.specs.Prelude.{nat_lt, if◌then◌else◌}
use Rattle.std.proofs.lemmas.Int.{ints}
use Rattle.std.proofs.lemmas.Bool.{cases_lt, lt-ltb, le-ltb}
use Rattle.std.proofs.lemmas.List.Elements.{All-from_recursion}
use Rattle.bit_pack.specs.declared.widths.Width.{Width}
use Rattle.bit_pack.specs.declared.widths.Width.TheVariants.{W0, W1, W2, W4, W8, W16, W32, W64}
use Rattle.bit_pack.specs.Width.{bit_count, Holds, HoldsAll, IsLeastWidth, IsNarrower, width_of, wider, least_width}
use Rattle.bit_pack.specs.Packed.{Packed, packing, packed}
use Rattle.bit_pack.proofs.LeastWidth.{Holds-wider, HoldsAll-wider, least-append, same_least}
use Rattle.bit_pack.proofs.Parts.{packed-packing, packing_is}

-- w holds the value, and no narrower width does
record IsWidthOf (w : Width) (v : ℤ) : Type 0 where
  holds : Holds w v
  least : (u : Width) → Holds u v → bit_count w ≤ bit_count u

-- the widths by their bits
bits_of : (u : Width) → (bit_count u ≡ 0) ⊎ (bit_count u ≡ 1) ⊎ (bit_count u ≡ 2) ⊎ (bit_count u ≡ 4) ⊎ (bit_count u ≡ 8) ⊎ (bit_count u ≡ 16) ⊎ (bit_count u ≡ 32) ⊎ (bit_count u ≡ 64)
bits_of W0 = inl refl
bits_of W1 = inr (inl refl)
bits_of W2 = inr (inr (inl refl))
bits_of W4 = inr (inr (inr (inl refl)))
bits_of W8 = inr (inr (inr (inr (inl refl))))
bits_of W16 = inr (inr (inr (inr (inr (inl refl)))))
bits_of W32 = inr (inr (inr (inr (inr (inr (inl refl))))))
bits_of W64 = inr (inr (inr (inr (inr (inr (inr refl))))))

-- a width is the least of a value where the next narrower one does not hold it
by_narrower : (u w : Width) (v : ℤ) → IsNarrower u w → Holds w v → (Holds u v → ⊥) → IsWidthOf w v
by_narrower u w v narrower held not_held = record {
  holds = held;
  least = λ s h. elim (cases_lt (bit_count s) (bit_count w)) [
    | inl lt ↦ absurd (not_held (Holds-wider s u v (narrower.next s lt) h))
    | inr le ↦ le
  ];
}

next_1 : IsNarrower W0 W1
next_1 = record { below = omega arith; next = λ v h. omega (arith, bits_of v) }

next_2 : IsNarrower W1 W2
next_2 = record { below = omega arith; next = λ v h. omega (arith, bits_of v) }

next_4 : IsNarrower W2 W4
next_4 = record { below = omega arith; next = λ v h. omega (arith, bits_of v) }

next_8 : IsNarrower W4 W8
next_8 = record { below = omega arith; next = λ v h. omega (arith, bits_of v) }

next_16 : IsNarrower W8 W16
next_16 = record { below = omega arith; next = λ v h. omega (arith, bits_of v) }

next_32 : IsNarrower W16 W32
next_32 = record { below = omega arith; next = λ v h. omega (arith, bits_of v) }

next_64 : IsNarrower W32 W64
next_64 = record { below = omega arith; next = λ v h. omega (arith, bits_of v) }

-- one step of the choice
step : (n m : ℕ) (u w : Width) (v : ℤ) → (n < m → IsWidthOf u v) → (m ≤ n → IsWidthOf w v) → IsWidthOf (if nat_lt n m then u else w) v
step n m u w v below above =
    let P : Bool → Type 0 = λ b. IsWidthOf (if b then u else w) v in
    elim (cases_lt n m) [
      | inl lt ↦ subst P (sym (lt-ltb n m lt)) (below lt)
      | inr le ↦ subst P (sym (le-ltb n m le)) (above le)
    ]

-- the width of a value is the least that holds it
width_of_is : (v : ℤ) → Holds W64 v → IsWidthOf (width_of v) v
width_of_is (pos n) h =
    step n 1 _ _ _ (λ a. record { holds = record { low = omega (arith, ints); high = omega (arith, ints) }; least = λ u _. omega arith })
    (λ b. step n 2 _ _ _ (λ a. by_narrower W0 W1 _ next_1 (record { low = omega (arith, ints); high = omega (arith, ints) }) (λ no. omega (arith, ints, no.high)))
    (λ b. step n 4 _ _ _ (λ a. by_narrower W1 W2 _ next_2 (record { low = omega (arith, ints); high = omega (arith, ints) }) (λ no. omega (arith, ints, no.high)))
    (λ b. step n 16 _ _ _ (λ a. by_narrower W2 W4 _ next_4 (record { low = omega (arith, ints); high = omega (arith, ints) }) (λ no. omega (arith, ints, no.high)))
    (λ b. step n (2 ^ 7) _ _ _ (λ a. by_narrower W4 W8 _ next_8 (record { low = omega (arith, ints); high = omega (arith, ints) }) (λ no. omega (arith, ints, no.high)))
    (λ b. step n (2 ^ 15) _ _ _ (λ a. by_narrower W8 W16 _ next_16 (record { low = omega (arith, ints); high = omega (arith, ints) }) (λ no. omega (arith, ints, no.high)))
    (λ b. step n (2 ^ 31) _ _ _ (λ a. by_narrower W16 W32 _ next_32 (record { low = omega (arith, ints); high = omega (arith, ints) }) (λ no. omega (arith, ints, no.high)))
    (λ b. by_narrower W32 W64 _ next_64 h (λ no. omega (arith, ints, no.high)))))))))
width_of_is (negsuc n) h =
    step n (2 ^ 7) _ _ _ (λ a. by_narrower W4 W8 _ next_8 (record { low = omega (arith, ints); high = omega (arith, ints) }) (λ no. omega (arith, ints, no.low)))
    (λ b. step n (2 ^ 15) _ _ _ (λ a. by_narrower W8 W16 _ next_16 (record { low = omega (arith, ints); high = omega (arith, ints) }) (λ no. omega (arith, ints, no.low)))
    (λ b. step n (2 ^ 31) _ _ _ (λ a. by_narrower W16 W32 _ next_32 (record { low = omega (arith, ints); high = omega (arith, ints) }) (λ no. omega (arith, ints, no.low)))
    (λ b. by_narrower W32 W64 _ next_64 h (λ no. omega (arith, ints, no.low)))))

wider_bits : (u w : Width) → bit_count (wider u w) ≡ max (bit_count u) (bit_count w)
wider_bits u w =
    let P : Bool → Type 0 = λ b. bit_count (if b then w else u) ≡ max (bit_count u) (bit_count w) in
    elim (cases_lt (bit_count u) (bit_count w)) [
      | inl lt ↦ subst P (sym (lt-ltb _ _ lt)) (omega arith)
      | inr le ↦ subst P (sym (le-ltb _ _ le)) (omega arith)
    ]

-- the least width of one value
alone : (w : Width) (v : ℤ) → IsWidthOf w v → IsLeastWidth w (v ∷ [])
alone w v h = record {
  held = record { each = All-from_recursion (Holds w) (v ∷ []) (h.holds, tt) };
  least = λ u all. h.least u (all.each 0 v (omega arith));
}

no_values : IsLeastWidth W0 []
no_values = record { held = record { each = All-from_recursion (Holds W0) [] tt }; least = λ u _. omega arith }

-- the function gives what the relation asks for, of values of 64 bits
pub least_width_is_least : (vs : List ℤ) → HoldsAll W64 vs → IsLeastWidth (least_width vs) vs
least_width_is_least [] h = no_values
least_width_is_least (v ∷ vs) h =
    let first : Holds W64 v = h.each 0 v (omega arith) in
    let others : HoldsAll W64 vs = record { each = λ k d within. h.each (suc k) d (omega arith) } in
    least-append (width_of v) (least_width vs) (least_width (v ∷ vs)) (v ∷ []) vs (alone (width_of v) v (width_of_is v first)) (least_width_is_least vs others) (wider_bits (width_of v) (least_width vs))

-- 64 bits hold what any width holds
held_by_widest : (w : Width) (vs : List ℤ) → HoldsAll w vs → HoldsAll W64 vs
held_by_widest w vs h = HoldsAll-wider w W64 vs (omega (arith, bits_of w)) h

-- and nothing else is
pub least_is : (w : Width) (vs : List ℤ) → IsLeastWidth w vs → w ≡ least_width vs
least_is w vs h = same_least w (least_width vs) vs h (least_width_is_least vs (held_by_widest w vs h.held))

-- the packing of values of 64 bits
pub packed_is_packed : (vs : List ℤ) → HoldsAll W64 vs → Packed (least_width vs) vs (packed vs)
packed_is_packed vs h =
    let least = least_width_is_least vs h in
    record { packed = packed-packing (least_width vs) vs least.held; least = least }

-- values have one packing
pub packed_is : (w : Width) (vs : List ℤ) (bytes : List ℕ) → Packed w vs bytes → bytes ≡ packed vs
packed_is w vs bytes h =
    packing_is w vs bytes h.packed ∙ ap (λ u. packing u vs) (least_is w vs h.least)

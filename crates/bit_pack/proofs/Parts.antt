-- The packing of values, and of their parts at a byte's edge.
use Rattle.std.proofs.Common.{◌≡◌, ℕ, zero, suc, ◌+◌, ◌*◌, ◌/◌, ◌%◌, ◌^◌, ◌<◌, ◌≤◌, ℤ, List, ◌++◌, length, map, take, drop, refl, sym, ap, subst, ◌∙◌, add-one, arith}
use Rattle.std.proofs.Math.Nat.{mul_comm, mul_assoc, mul-zero, mod-eq_of_lt, div-one, pow-le-pow_right}
use Rattle.std.proofs.lemmas.Nat.{mod_below}
use Rattle.std.proofs.lemmas.List.{take_at, drop_at}
use Rattle.std.proofs.lemmas.List.Elements.{All-from_recursion}
use Rattle.std.specs.Int.{byte_at, bytes_low_first}
use Rattle.std.specs.List.{range_with_len, AllByRecursion}
use Rattle.bit_pack.specs.declared.widths.Width.{Width}
use Rattle.bit_pack.specs.Width.{bit_count, HoldsAll}
use Rattle.bit_pack.specs.Packed.{number_of, packed_number, packed_len, AreBytes, PackedAt, packing}
use Rattle.bit_pack.proofs.Digits.{pow-mul}
use Rattle.bit_pack.proofs.Packing.{number_of-digits, packed_number-lt, same_bytes}
use Rattle.bit_pack.proofs.LeastWidth.{held-append_left, held-append_right}
use Rattle.bit_pack.proofs.Changes.{packed-append}

byte_at_is : (i n : ℕ) → byte_at i n ≡ n / 2 ^ (8 * i) % 2 ^ 8
byte_at_is zero n = sym (ap (λ (k : ℕ). n / k % 256) (ap (λ (k : ℕ). 2 ^ k) (mul-zero 8)) ∙ ap (λ (k : ℕ). k % 256) (div-one n))
byte_at_is (suc i) n = ap (λ (k : ℕ). n / k % 256) (sym (pow-mul 2 8 (suc i)))

bytes_are_digits : (i k n : ℕ) → bytes_low_first i k n ≡ map (λ j. n / 2 ^ (8 * j) % 2 ^ 8) (range_with_len i k)
bytes_are_digits i zero n = refl
bytes_are_digits i (suc k) n =
    let first = byte_at_is i n in
    let rest = ap (λ (j : ℕ). bytes_low_first j k n) (sym (add-one i)) ∙ bytes_are_digits (i + 1) k n in
    cc

length-bytes_low_first : (i k n : ℕ) → length (bytes_low_first i k n) ≡ k
length-bytes_low_first i zero n = refl
length-bytes_low_first i (suc k) n = omega (arith, length-bytes_low_first (suc i) k n)

pub AreBytes-bytes_low_first : (i k n : ℕ) → AreBytes (bytes_low_first i k n)
AreBytes-bytes_low_first i k n = All-from_recursion (λ b. b < 256) (bytes_low_first i k n) (by_recursion i k)
  where
    byte_lt : (i : ℕ) → byte_at i n < 256
    byte_lt zero = mod_below n 256 (omega arith)
    byte_lt (suc i) = mod_below (n / 256 ^ suc i) 256 (omega arith)

    by_recursion : (i k : ℕ) → AllByRecursion (λ b. b < 256) (bytes_low_first i k n)
    by_recursion i zero = tt
    by_recursion i (suc k) = (byte_lt i, by_recursion (suc i) k)

-- values of a width have a packing
pub packed-packing : (w : Width) (vs : List ℤ) → HoldsAll w vs → PackedAt w vs (packing w vs)
packed-packing w vs held =
    let k = packed_len w (length vs) in
    let n = packed_number w vs in
    let place : n / 2 ^ (8 * 0) ≡ n = ap (λ (j : ℕ). n / j) (ap (λ (j : ℕ). 2 ^ j) (mul-zero 8)) ∙ div-one n in
    let bits : bit_count w * length vs ≤ 8 * k = omega (arith, mul_comm (length vs) (bit_count w)) in
    let room : 2 ^ (bit_count w * length vs) ≤ 2 ^ (8 * k) = pow-le-pow_right (omega arith) bits in
    let small : n < 2 ^ (8 * k) = omega (arith, packed_number-lt w vs, room) in
    record {
      held = held;
      octets = AreBytes-bytes_low_first 0 k n;
      len = length-bytes_low_first 0 k n;
      number = ap (number_of 256) (bytes_are_digits 0 k n) ∙ number_of-digits 8 k 0 n ∙ ap (λ (j : ℕ). j % 2 ^ (8 * k)) place ∙ mod-eq_of_lt small;
    }

-- and no other
pub packing_is : (w : Width) (vs : List ℤ) (bytes : List ℕ) → PackedAt w vs bytes → bytes ≡ packing w vs
packing_is w vs bytes h = same_bytes w vs bytes (packing w vs) h (packed-packing w vs h.held)

-- As many values as fill whole bytes: each multiple of 8 does.
pub ends_at_edge : (w : Width) (n m : ℕ) → n ≡ 8 * m → bit_count w * n ≡ 8 * packed_len w n
ends_at_edge w n m e =
    let bits : n * bit_count w ≡ 8 * (m * bit_count w) = ap (λ (k : ℕ). k * bit_count w) e ∙ mul_assoc 8 m (bit_count w) in
    omega (arith, bits, mul_comm n (bit_count w))

-- the packing of joined values, the first of which end at a byte's edge
pub packing-append : (w : Width) (xs ys : List ℤ) → HoldsAll w (xs ++ ys) → bit_count w * length xs ≡ 8 * packed_len w (length xs) → packing w (xs ++ ys) ≡ packing w xs ++ packing w ys
packing-append w xs ys h edge =
    let first = packed-packing w xs (held-append_left w xs ys h) in
    let second = packed-packing w ys (held-append_right w xs ys h) in
    sym (packing_is w (xs ++ ys) (packing w xs ++ packing w ys) (packed-append w xs ys (packing w xs) (packing w ys) first second (edge ∙ ap (λ (k : ℕ). 8 * k) (sym first.len))))

pub length-packing : (w : Width) (vs : List ℤ) → length (packing w vs) ≡ packed_len w (length vs)
length-packing w vs = length-bytes_low_first 0 (packed_len w (length vs)) (packed_number w vs)

-- packed bytes cut at such an edge
pub packed-split : (w : Width) (xs ys : List ℤ) (bytes : List ℕ) → PackedAt w (xs ++ ys) bytes → bit_count w * length xs ≡ 8 * packed_len w (length xs) → PackedAt w xs (take (packed_len w (length xs)) bytes) × PackedAt w ys (drop (packed_len w (length xs)) bytes)
packed-split w xs ys bytes h edge =
    let n = packed_len w (length xs) in
    let first = packed-packing w xs (held-append_left w xs ys h.held) in
    let second = packed-packing w ys (held-append_right w xs ys h.held) in
    let joined : bytes ≡ packing w xs ++ packing w ys = packing_is w (xs ++ ys) bytes h ∙ packing-append w xs ys h.held edge in
    let front : packing w xs ≡ take n bytes = sym (ap (take n) joined ∙ take_at (packing w xs) (packing w ys) n (length-packing w xs)) in
    let back : packing w ys ≡ drop n bytes = sym (ap (drop n) joined ∙ drop_at (packing w xs) (packing w ys) n (length-packing w xs)) in
    (subst (PackedAt w xs) front first, subst (PackedAt w ys) back second)

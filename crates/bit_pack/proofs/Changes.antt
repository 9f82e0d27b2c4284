-- Packed values that are changed, cut, joined and read back.
use Rattle.std.proofs.Common.{◌≡◌, ℕ, zero, suc, ◌+◌, ◌-◌, ◌*◌, ◌/◌, ◌%◌, ◌^◌, ◌<◌, ◌≤◌, ℤ, pos, List, [], ◌∷◌, ◌++◌, length, get_or, set, take, replicate, inl, inr, refl, sym, ap, ◌∙◌, arith}
use Rattle.std.proofs.Math.Nat.{mul-zero, mul_comm, div-one, mod-eq_of_lt}
use Rattle.std.proofs.lemmas.Nat.{pow_pos}
use Rattle.std.proofs.lemmas.List.{length-map, get_or-map, length-replicate, map-append, map-set, length-set, length-append, length-take, set_at, take_more, append_assoc, same_lists, get_or_default}
use Rattle.std.proofs.lemmas.List.Elements.{All-append, All-set, All-replicate}
use Rattle.std.proofs.lemmas.Bool.{cases_lt}
use Rattle.std.proofs.lemmas.List.FromFn.{length-map-range_with_len, get_or-map-range_with_len, map-range_with_len_more}
use Rattle.bit_pack.specs.declared.widths.Width.{Width}
use Rattle.bit_pack.specs.Width.{bit_count, Holds}
use Rattle.bit_pack.specs.Packed.{number_of, little_endian, residue, packed_number, packed_len, AreBytes, PackedAt, digit_at, value_at, values_from, HasPadding}
use Rattle.bit_pack.specs.Lane.{Writes}
use Rattle.bit_pack.proofs.Digits.{pow-mul, number_of-append, number_of-set, number_of-replicate_zero}
use Rattle.bit_pack.proofs.LeastWidth.{zero_held}
use Rattle.bit_pack.proofs.Packing.{residues, packed_number_is, digit_at_is, number_of-digits, residues-values, HoldsAll-values}

-- one value set, by a write of it
pub packed-set : (w : Width) (vs : List ℤ) (old new : List ℕ) (i : ℕ) (v : ℤ) → PackedAt w vs old → i < length vs → Holds w v → Writes w old new i v → PackedAt w (set vs i v) new
packed-set w vs old new i v h within held write =
    let k = bit_count w in
    let digits = residues k vs in
    let inside : i < length digits = omega (arith, within, length-map vs (residue k)) in
    let digit : digit_at w old i ≡ get_or digits i 0 = digit_at_is w vs old i (pos 0) h within ∙ sym (get_or-map (residue k) vs i (pos 0) 0 within) in
    let place : 2 ^ (k * i) ≡ (2 ^ k) ^ i = pow-mul 2 k i in
    let changed : number_of (2 ^ k) (set digits i (residue k v)) + (2 ^ k) ^ i * get_or digits i 0 ≡ number_of (2 ^ k) digits + (2 ^ k) ^ i * residue k v = number_of-set (2 ^ k) i digits (residue k v) inside in
    let digits_set : residues k (set vs i v) ≡ set digits i (residue k v) = map-set (residue k) vs i v in
    let new_number : packed_number w (set vs i v) ≡ number_of (2 ^ k) (set digits i (residue k v)) = packed_number_is w (set vs i v) ∙ ap (number_of (2 ^ k)) digits_set in
    let old_number : little_endian old ≡ number_of (2 ^ k) digits = h.number ∙ packed_number_is w vs in
    let gone : 2 ^ (k * i) * digit_at w old i ≡ (2 ^ k) ^ i * get_or digits i 0 = ap (λ (n : ℕ). n * digit_at w old i) place ∙ ap (λ (n : ℕ). (2 ^ k) ^ i * n) digit in
    let come : 2 ^ (k * i) * residue k v ≡ (2 ^ k) ^ i * residue k v = ap (λ (n : ℕ). n * residue k v) place in
    record {
      held = record { each = All-set (Holds w) vs i v held h.held.each };
      octets = write.octets;
      len = write.len ∙ h.len ∙ ap (packed_len w) (sym (length-set vs i v));
      number = omega (arith, write.number, changed, new_number, old_number, gone, come);
    }

-- zeros are packed as zero bytes
pub packed-zeros : (w : Width) (n m : ℕ) → m ≡ packed_len w n → PackedAt w (replicate n (pos 0)) (replicate m 0)
packed-zeros w n m e =
    let k = bit_count w in
    record {
      held = record { each = All-replicate (Holds w) n (pos 0) (zero_held w) };
      octets = All-replicate (λ b. b < 256) m 0 (omega arith);
      len = length-replicate m 0 ∙ e ∙ ap (packed_len w) (sym (length-replicate n (pos 0)));
      number = number_of-replicate_zero 256 m ∙ sym (packed_number_is w (replicate n (pos 0)) ∙ ap (number_of (2 ^ k)) (residues-zeros k n) ∙ number_of-replicate_zero (2 ^ k) n);
    }
  where
    residues-zeros : (k n : ℕ) → residues k (replicate n (pos 0)) ≡ replicate n 0
    residues-zeros k zero = refl
    residues-zeros k (suc n) =
        let zero_residue : 0 % 2 ^ k ≡ 0 = mod-eq_of_lt (pow_pos k) in
        let rest = residues-zeros k n in
        cc

packed_number-append : (w : Width) (xs ys : List ℤ) → packed_number w (xs ++ ys) ≡ packed_number w xs + 2 ^ (bit_count w * length xs) * packed_number w ys
packed_number-append w xs ys =
    let k = bit_count w in
    let joined : residues k (xs ++ ys) ≡ residues k xs ++ residues k ys = map-append (residue k) xs ys in
    let split : number_of (2 ^ k) (residues k xs ++ residues k ys) ≡ number_of (2 ^ k) (residues k xs) + (2 ^ k) ^ length (residues k xs) * number_of (2 ^ k) (residues k ys) = number_of-append (2 ^ k) (residues k xs) (residues k ys) in
    let power : (2 ^ k) ^ length (residues k xs) ≡ 2 ^ (k * length xs) = ap (λ (n : ℕ). (2 ^ k) ^ n) (length-map xs (residue k)) ∙ sym (pow-mul 2 k (length xs)) in
    let second : (2 ^ k) ^ length (residues k xs) * number_of (2 ^ k) (residues k ys) ≡ 2 ^ (k * length xs) * packed_number w ys = ap (λ (n : ℕ). n * number_of (2 ^ k) (residues k ys)) power ∙ ap (λ (n : ℕ). 2 ^ (k * length xs) * n) (sym (packed_number_is w ys)) in
    packed_number_is w (xs ++ ys) ∙ ap (number_of (2 ^ k)) joined ∙ omega (arith, split, second, packed_number_is w xs)

-- Values that end at a byte's edge, as any multiple of 8 of them do, and values after them.
pub packed-append : (w : Width) (xs ys : List ℤ) (front back : List ℕ) → PackedAt w xs front → PackedAt w ys back → bit_count w * length xs ≡ 8 * length front → PackedAt w (xs ++ ys) (front ++ back)
packed-append w xs ys front back h k edge =
    let power : 2 ^ (bit_count w * length xs) ≡ 256 ^ length front = ap (λ (n : ℕ). 2 ^ n) edge ∙ pow-mul 2 8 (length front) in
    let joined : little_endian (front ++ back) ≡ little_endian front + 256 ^ length front * little_endian back = number_of-append 256 front back in
    let second : 256 ^ length front * little_endian back ≡ 2 ^ (bit_count w * length xs) * packed_number w ys = ap (λ (n : ℕ). n * little_endian back) (sym power) ∙ ap (λ (n : ℕ). 2 ^ (bit_count w * length xs) * n) k.number in
    record {
      held = record { each = All-append (Holds w) xs ys h.held.each k.held.each };
      octets = All-append (λ b. b < 256) front back h.octets k.octets;
      len = joined_len;
      number = omega (arith, joined, second, h.number, packed_number-append w xs ys);
    }
  where
    joined_len : length (front ++ back) ≡ packed_len w (length (xs ++ ys))
    joined_len =
        let count : length (xs ++ ys) * bit_count w ≡ bit_count w * length xs + length ys * bit_count w = ap (λ (n : ℕ). n * bit_count w) (length-append xs ys) ∙ omega (arith, mul_comm (length xs) (bit_count w)) in
        omega (arith, length-append front back, k.len, edge, count)

-- the bytes of n values and no bit more are the values that they hold
pub packed-values : (w : Width) (n : ℕ) (bytes : List ℕ) → AreBytes bytes → length bytes ≡ packed_len w n → (HasPadding w bytes n → ⊥) → PackedAt w (values_from w bytes 0 n) bytes
packed-values w n bytes octets len clean =
    let k = bit_count w in
    let vs = values_from w bytes 0 n in
    let count : length vs ≡ n = length-map-range_with_len (value_at w bytes) 0 n in
    let none : 2 ^ (k * 0) ≡ 1 = ap (λ (j : ℕ). 2 ^ j) (mul-zero k) in
    let whole : little_endian bytes / 2 ^ (k * 0) ≡ little_endian bytes = ap (λ (j : ℕ). little_endian bytes / j) none ∙ div-one (little_endian bytes) in
    let small : little_endian bytes < 2 ^ (k * n) = by_cases_le (2 ^ (k * n)) (little_endian bytes) clean in
    record {
      held = HoldsAll-values w bytes 0 n;
      octets = octets;
      len = len ∙ ap (packed_len w) (sym count);
      number = sym (packed_number_is w vs ∙ ap (number_of (2 ^ k)) (residues-values w bytes 0 n) ∙ number_of-digits k n 0 (little_endian bytes) ∙ ap (λ (j : ℕ). j % 2 ^ (k * n)) whole ∙ mod-eq_of_lt small);
    }
  where
    by_cases_le : (a b : ℕ) → (a ≤ b → ⊥) → b < a
    by_cases_le a b h = elim (cases_lt b a) [ inl lt ↦ lt | inr le ↦ absurd (h le) ]

-- ---- lists of values that loops make

pub length-values_from : (w : Width) (bytes : List ℕ) (i n : ℕ) → length (values_from w bytes i n) ≡ n
length-values_from w bytes i n = length-map-range_with_len (value_at w bytes) i n

-- one more value
pub values_from-more : (w : Width) (bytes : List ℕ) (i n j : ℕ) → i + n ≡ j → values_from w bytes i (n + 1) ≡ values_from w bytes i n ++ value_at w bytes j ∷ []
values_from-more w bytes i n j e = map-range_with_len_more (value_at w bytes) i n j e

pub get_or-values_from : (w : Width) (bytes : List ℕ) (i n k j : ℕ) (d : ℤ) → k < n → i + k ≡ j → get_or (values_from w bytes i n) k d ≡ value_at w bytes j
get_or-values_from w bytes i n k j d within e = get_or-map-range_with_len (value_at w bytes) i n k j d within e

pub values_from-made : (w : Width) (bytes : List ℕ) (i n : ℕ) (xs : List ℤ) → length xs ≡ n → ((k : ℕ) → k < n → get_or xs k (pos 0) ≡ value_at w bytes (i + k)) → xs ≡ values_from w bytes i n
values_from-made w bytes i n xs len at =
    same_lists xs (values_from w bytes i n) (len ∙ sym (length-map-range_with_len (value_at w bytes) i n)) (λ k d within.
    let inside : k < n = omega (arith, within, len) in
    get_or_default xs k d (pos 0) within ∙ at k inside ∙ sym (get_or-values_from w bytes i n k (i + k) d inside refl))

-- the next value in place of the first zero
pub set-next : (vs : List ℤ) (i : ℕ) (v d : ℤ) → i < length vs → v ≡ get_or vs i d → set (take i vs ++ replicate (length vs - i) (pos 0)) i v ≡ take (i + 1) vs ++ replicate (length vs - (i + 1)) (pos 0)
set-next vs i v d within is =
    let left : length vs - i ≡ suc (length vs - (i + 1)) = omega arith in
    let front_len : length (take i vs) ≡ i = simp length-take (omega arith) in
    let zeros = replicate (length vs - (i + 1)) (pos 0) in
    let placed : set (take i vs ++ pos 0 ∷ zeros) i v ≡ take i vs ++ v ∷ zeros = set_at (take i vs) (pos 0) zeros v i front_len in
    let front : take (i + 1) vs ≡ take i vs ++ get_or vs i d ∷ [] = take_more vs i d within in
    ap (λ (n : ℕ). set (take i vs ++ replicate n (pos 0)) i v) left ∙ placed ∙ ap (λ (x : ℤ). take i vs ++ x ∷ zeros) is ∙ sym (append_assoc (take i vs) (get_or vs i d ∷ []) zeros) ∙ ap (λ (xs : List ℤ). xs ++ zeros) (sym front)

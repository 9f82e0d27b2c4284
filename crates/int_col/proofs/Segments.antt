-- Laws of a segment's fields and of its values.
use Rattle.std.proofs.Common.{◌≡◌, ◌≢◌, slice_get, Some, ℕ, ◌+◌, ◌-◌, ◌*◌, ◌<◌, ◌≤◌, ◌^◌, ◌↔◌, IsTrue, Bool, true, false, ℤ, pos, List, [], ◌∷◌, ◌++◌, length, get_or, set, take, drop, replicate, refl, sym, ap, subst, ◌∙◌, arith}
use Rattle.std.specs.Bool.{OnTrue}
use Rattle.std.specs.List.{All}
use Rattle.std.specs.Int.{div_ceil}
use Rattle.std.proofs.Math.Nat.{mul-zero, zero-mod}
use Rattle.std.proofs.lemmas.List.{get_or-take, get_or-drop, length-take-le, length-drop, length-append, length-replicate, length_push, length-set, map-append, set_at, set-set, set-get_or, get_or-set_same, get_or-set_other, take_at, take_all}
use Rattle.std.proofs.lemmas.Bool.{false≢true}
use Rattle.std.proofs.lemmas.Option.{get_or_from_slice_get}
use Rattle.std.proofs.lemmas.List.Elements.{All-append, All-replicate, All-take, All-same, All-set}
use Rattle.bit_pack.specs.declared.widths.Width.{Width}
use Rattle.bit_pack.specs.Width.{bit_count, Holds, HoldsAll, IsLeastWidth, IsNarrower}
use Rattle.bit_pack.specs.Packed.{PackedAt, Packed, packed_len, little_endian, number_of, residue, values_from, Reaches}
use Rattle.bit_pack.proofs.Digits.{number_of-append, number_of-replicate_zero}
use Rattle.bit_pack.proofs.Packing.{residues, packed_number_is, values_from_is, reaches_all, reaches_within}
use Rattle.bit_pack.proofs.Changes.{length-values_from, get_or-values_from, values_from-made}
use Rattle.bit_pack.proofs.LeastWidth.{same_least, zero_held, least_by_narrower}
use Rattle.int_col.specs.Segment.{IsSegment, Takes}

-- packed values are a segment of them
pub segment_made : (count : ℕ) (w : Width) (vs : List ℤ) (bytes : List ℕ) → PackedAt w vs bytes → IsLeastWidth w vs → length vs ≡ count → count ≤ 2048 → IsSegment count w bytes × (values_from w bytes 0 count ≡ vs)
segment_made count w vs bytes packed least len few =
    let same : values_from w bytes 0 count ≡ vs = ap (values_from w bytes 0) (sym len) ∙ values_from_is w vs bytes packed in
    let P : List ℤ → Type 0 = λ xs. Packed w xs bytes in
    let there : Packed w vs bytes = record { packed = packed; least = least } in
    (record { few = few; packed = subst P (sym same) there }, same)

-- the count is how many values are seen
pub count_is : (count : ℕ) (w : Width) (bytes : List ℕ) (vs : List ℤ) → values_from w bytes 0 count ≡ vs → count ≡ length vs
count_is count w bytes vs view = sym (length-values_from w bytes 0 count) ∙ ap length view

pub segment_reaches : (count k : ℕ) (w : Width) (bytes : List ℕ) → IsSegment count w bytes → k ≤ count → Reaches w bytes k
segment_reaches count k w bytes h le =
    let len = length-values_from w bytes 0 count in
    reaches_within w bytes k (length (values_from w bytes 0 count)) (omega arith) (reaches_all w (values_from w bytes 0 count) bytes h.packed.packed)

-- packed bytes have the bits of each value that they are
pub packed_reaches : (w : Width) (n k : ℕ) (bytes : List ℕ) → PackedAt w (values_from w bytes 0 n) bytes → k ≤ n → Reaches w bytes k
packed_reaches w n k bytes h le =
    reaches_within w bytes k (length (values_from w bytes 0 n)) (omega (arith, length-values_from w bytes 0 n)) (reaches_all w (values_from w bytes 0 n) bytes h)

-- the values from a place on, read from the bytes
pub values_part : (w : Width) (bytes : List ℕ) (from n count : ℕ) → from + n ≤ count → values_from w bytes from n ≡ take n (drop from (values_from w bytes 0 count))
values_part w bytes from n count within =
    let vs : List ℤ = values_from w bytes 0 count in
    let len = length-values_from w bytes 0 count in
    sym (values_from-made w bytes from n (take n (drop from vs))
    (length-take-le n (drop from vs) (omega (arith, length-drop from vs)))
    (λ k l. get_or-take n (drop from vs) k (pos 0) l ∙ get_or-drop from vs k (pos 0) ∙ get_or-values_from w bytes 0 count (from + k) (from + k) (pos 0) (omega arith) (omega arith)))

residue-zero : (w : ℕ) → residue w (pos 0) ≡ 0
residue-zero w = zero-mod (2 ^ w)

-- one more value, 0, in more bytes, all 0
pub packed-zero_more : (w : Width) (vs : List ℤ) (bytes : List ℕ) (m : ℕ) → PackedAt w vs bytes → length bytes + m ≡ packed_len w (length vs + 1) → PackedAt w (vs ++ pos 0 ∷ []) (bytes ++ replicate m 0)
packed-zero_more w vs bytes m p len = record {
  held = record { each = All-append (Holds w) vs (pos 0 ∷ []) p.held.each (All-replicate (Holds w) 1 (pos 0) (zero_held w)) };
  octets = All-append (λ b. b < 256) bytes (replicate m 0) p.octets (All-replicate (λ b. b < 256) m 0 (omega arith));
  len = length-append bytes (replicate m 0) ∙ ap (λ k. length bytes + k) (length-replicate m 0) ∙ len ∙ ap (packed_len w) (sym (length_push vs (pos 0)));
  number =
      number_of-append 256 bytes (replicate m 0)
      ∙ ap (λ x. little_endian bytes + 256 ^ length bytes * x) (number_of-replicate_zero 256 m)
      ∙ ap (λ x. little_endian bytes + x) (mul-zero (256 ^ length bytes))
      ∙ ap (λ x. x + 0) (p.number ∙ packed_number_is w vs)
      ∙ ap (λ x. number_of (2 ^ bit_count w) (residues (bit_count w) vs) + x) (sym (last_zero w vs))
      ∙ sym (number_of-append (2 ^ bit_count w) (residues (bit_count w) vs) (residue (bit_count w) (pos 0) ∷ []))
      ∙ ap (number_of (2 ^ bit_count w)) (sym (map-append (residue (bit_count w)) vs (pos 0 ∷ [])))
      ∙ sym (packed_number_is w (vs ++ pos 0 ∷ []));
} where
  last_zero : (w : Width) (vs : List ℤ) → (2 ^ bit_count w) ^ length (residues (bit_count w) vs) * number_of (2 ^ bit_count w) (residue (bit_count w) (pos 0) ∷ []) ≡ 0
  last_zero w vs =
      ap (λ x. (2 ^ bit_count w) ^ length (residues (bit_count w) vs) * (x + 2 ^ bit_count w * 0)) (residue-zero (bit_count w))
      ∙ ap (λ x. (2 ^ bit_count w) ^ length (residues (bit_count w) vs) * (0 + x)) (mul-zero (2 ^ bit_count w))
      ∙ mul-zero ((2 ^ bit_count w) ^ length (residues (bit_count w) vs))

-- one more value is put behind the others
pub pushed_value : (vs : List ℤ) (v : ℤ) (n : ℕ) → n ≡ length vs → set (vs ++ pos 0 ∷ []) n v ≡ vs ++ v ∷ []
pushed_value vs v n len = set_at vs (pos 0) [] v n (sym len)

-- a width that holds one more value stays the least
pub least-push : (w : Width) (vs : List ℤ) (v : ℤ) → IsLeastWidth w vs → Holds w v → IsLeastWidth w (vs ++ v ∷ [])
least-push w vs v h holds = record {
  held = record { each = All-append (Holds w) vs (v ∷ []) h.held.each (All-replicate (Holds w) 1 v holds) };
  least = λ u all. h.least u (record { each = front u all });
} where
  front : (u : Width) → HoldsAll u (vs ++ v ∷ []) → All (Holds u) vs
  front u all = All-same (Holds u) vs (take (length vs) (vs ++ v ∷ [])) (sym (take_at vs (v ∷ []) (length vs) refl)) (All-take (Holds u) (length vs) (vs ++ v ∷ []) all.each)

packed_len-more : (w : Width) (n : ℕ) → packed_len w n ≤ packed_len w (n + 1)
packed_len-more w n = ceil_rises (n * bit_count w) ((n + 1) * bit_count w) (omega arith) where
  ceil_rises : (a b : ℕ) → a ≤ b → div_ceil a 8 ≤ div_ceil b 8
  ceil_rises a b le = omega arith

-- a segment with one more value, put where zeros were added
pub pushed_segment : (count len : ℕ) (w : Width) (bytes longer new : List ℕ) (vs : List ℤ) (v : ℤ) → IsSegment count w bytes → values_from w bytes 0 count ≡ vs → count < 2048 → Holds w v → len ≡ packed_len w (count + 1) → longer ≡ take len bytes ++ replicate (len - length bytes) 0 → ((values : List ℤ) → PackedAt w values longer → count < length values → PackedAt w (set values count v) new) → IsSegment (count + 1) w new × (values_from w new 0 (count + 1) ≡ vs ++ v ∷ [])
pushed_segment count len w bytes longer new vs v h view room holds is_len grown put =
    let n : count ≡ length vs = count_is count w bytes vs view in
    let P : List ℤ → Type 0 = λ xs. PackedAt w xs bytes in
    let before : PackedAt w vs bytes = subst P view h.packed.packed in
    let Q : List ℤ → Type 0 = λ xs. IsLeastWidth w xs in
    let least : IsLeastWidth w vs = subst Q view h.packed.least in
    let reach : len ≡ packed_len w (length vs + 1) = is_len ∙ ap (λ k. packed_len w (k + 1)) n in
    let fits : length bytes ≤ len = omega (arith, before.len, reach, packed_len-more w (length vs)) in
    let R : List ℕ → Type 0 = λ bs. PackedAt w (vs ++ pos 0 ∷ []) bs in
    let zeros : PackedAt w (vs ++ pos 0 ∷ []) longer =
    subst R (sym (grown ∙ ap (λ bs. bs ++ replicate (len - length bytes) 0) (take_all len bytes fits)))
    (packed-zero_more w vs bytes (len - length bytes) before (omega (arith, fits, reach))) in
    let S : List ℤ → Type 0 = λ xs. PackedAt w xs new in
    let after : PackedAt w (vs ++ v ∷ []) new = subst S (pushed_value vs v count n) (put (vs ++ pos 0 ∷ []) zeros (omega (arith, n, length_push vs (pos 0)))) in
    segment_made (count + 1) w (vs ++ v ∷ []) new after (least-push w vs v least holds) (length_push vs v ∙ ap (λ k. k + 1) (sym n)) (omega arith)

pub takes_when : (r : Bool) (w : Width) (count : ℕ) (vs : List ℤ) (v : ℤ) → IsTrue r ↔ Holds w v → IsLeastWidth w vs → count ≡ length vs → count < 2048 → OnTrue r (Takes vs v)
takes_when false w count vs v is least len room = tt
takes_when true w count vs v is least len room = record {
  room = omega arith;
  holds = λ u other. let P : Width → Type 0 = λ x. Holds x v in subst P (same_least w u vs least other) (is.0 refl);
}

-- which widths hold a list with one value set

pub exceeds_by_new : (u : Width) (vs : List ℤ) (at : ℕ) (v : ℤ) → at < length vs → (Holds u v → ⊥) → HoldsAll u (set vs at v) → ⊥
exceeds_by_new u vs at v l exceeds all =
    let P : ℤ → Type 0 = Holds u in
    exceeds (subst P (get_or-set_same vs at v v l) (all.each at v (omega (arith, length-set vs at v))))

pub exceeds_by_old : (u : Width) (vs : List ℤ) (at : ℕ) (v old : ℤ) → at < length vs → slice_get vs at ≡ Some old → Holds u old → (HoldsAll u vs → ⊥) → HoldsAll u (set vs at v) → ⊥
exceeds_by_old u vs at v old l got holds exceeds all =
    let back : set (set vs at v) at old ≡ vs =
    set-set vs at v old ∙ ap (set vs at) (sym (get_or_from_slice_get vs at old old got)) ∙ set-get_or vs at old in
    exceeds (record { each = All-same (Holds u) vs (set (set vs at v) at old) (sym back) (All-set (Holds u) (set vs at v) at old holds all.each) })

pub exceeds_by_other : (u : Width) (vs : List ℤ) (at : ℕ) (v : ℤ) → (k : ℕ) × (k < length vs) × (k ≢ at) × (Holds u (get_or vs k (pos 0)) → ⊥) → HoldsAll u (set vs at v) → ⊥
exceeds_by_other u vs at v other all =
    let P : ℤ → Type 0 = Holds u in
    other.3 (subst P (get_or-set_other vs at other.0 v (pos 0) other.2) (all.each other.0 (pos 0) (let l : other.0 < length vs = other.1 in omega (arith, length-set vs at v))))

pub false_refutes : (r : Bool) {P : Type 0} → IsTrue r ↔ P → r ≡ false → P → ⊥
false_refutes r is f p = false≢true (sym f ∙ is.1 p)

pub on_true_then : (r : Bool) {P Q : Type 0} → (P → Q) → OnTrue r P → OnTrue r Q
on_true_then false f h = tt
on_true_then true f h = f h

-- the least width stays, where the next narrower one does not hold the list with the value set
pub keeps_least : (u w : Width) (vs : List ℤ) (at : ℕ) (v : ℤ) → IsLeastWidth w vs → IsNarrower u w → Holds w v → (HoldsAll u (set vs at v) → ⊥) → (x : Width) → IsLeastWidth x vs → IsLeastWidth x (set vs at v)
keeps_least u w vs at v least narrower holds exceeds x other =
    let P : Width → Type 0 = λ y. IsLeastWidth y (set vs at v) in
    subst P (same_least w x vs least other) (least_by_narrower u w (set vs at v) narrower (record { each = All-set (Holds w) vs at v holds least.held.each }) exceeds)

-- a value set at a least width is held by it
pub held_when_set : (w : Width) (vs : List ℤ) (at : ℕ) (v : ℤ) → at < length vs → IsLeastWidth w (set vs at v) → Holds w v
held_when_set w vs at v l least =
    let P : ℤ → Type 0 = Holds w in
    subst P (get_or-set_same vs at v v l) (least.held.each at v (omega (arith, length-set vs at v)))

-- a segment with one value put in place
pub set_segment : (count : ℕ) (w : Width) (bytes new : List ℕ) (vs : List ℤ) (at : ℕ) (v : ℤ) → IsSegment count w bytes → values_from w bytes 0 count ≡ vs → at < length vs → ((values : List ℤ) → PackedAt w values bytes → at < length values → PackedAt w (set values at v) new) → IsLeastWidth w (set vs at v) → IsSegment count w new × (values_from w new 0 count ≡ set vs at v)
set_segment count w bytes new vs at v h view within put least =
    let P : List ℤ → Type 0 = λ xs. PackedAt w xs bytes in
    segment_made count w (set vs at v) new (put vs (subst P view h.packed.packed) within) least
    (length-set vs at v ∙ sym (count_is count w bytes vs view)) h.few

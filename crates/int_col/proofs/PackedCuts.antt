-- Laws of packed values that are cut into segments.
use Rattle.std.proofs.Common.{◌≡◌, ℕ, ◌+◌, ◌-◌, ◌*◌, ◌/◌, ◌%◌, ◌≤◌, inl, inr, min, ℤ, List, length, take, drop, sym, ap, subst, ◌∙◌, arith}
use Rattle.std.proofs.lemmas.Bool.{cases_lt}
use Rattle.std.proofs.lemmas.List.{take-append-drop, take_all, length-take-le, length-drop}
use Rattle.bit_pack.specs.declared.widths.Width.{Width}
use Rattle.bit_pack.specs.Packed.{packed_len, PackedAt, values_from}
use Rattle.bit_pack.proofs.Changes.{length-values_from}
use Rattle.bit_pack.proofs.Packing.{values_from_is}
use Rattle.bit_pack.proofs.Parts.{packed-split, ends_at_edge}
use Rattle.int_col.proofs.Fills.{packed_len-behind}

-- packed values read back
packed_again : (w : Width) (vs : List ℤ) (bytes : List ℕ) (n : ℕ) → PackedAt w vs bytes → length vs ≡ n → PackedAt w (values_from w bytes 0 n) bytes × (values_from w bytes 0 n ≡ vs)
packed_again w vs bytes n h len =
    let P : List ℤ → Type 0 = λ xs. PackedAt w xs bytes in
    let same : values_from w bytes 0 n ≡ vs = ap (values_from w bytes 0) (sym len) ∙ values_from_is w vs bytes h in
    (subst P (sym same) h, same)

-- the values behind whole segments
behind : (w : Width) (vs : List ℤ) (bytes : List ℕ) (from : ℕ) → PackedAt w vs bytes → from % 8 ≡ 0 → from ≤ length vs → PackedAt w (drop from vs) (drop (packed_len w from) bytes)
behind w vs bytes from h whole within =
    let P : List ℤ → Type 0 = λ xs. PackedAt w xs bytes in
    let Q : ℕ → Type 0 = λ n. PackedAt w (drop from vs) (drop (packed_len w n) bytes) in
    let len : length (take from vs) ≡ from = length-take-le from vs within in
    let edge = ends_at_edge w (length (take from vs)) (from / 8) (omega arith) in
    subst Q len (packed-split w (take from vs) (drop from vs) bytes (subst P (sym (take-append-drop from vs)) h) edge).1

-- the first whole segments
pub front : (w : Width) (vs : List ℤ) (bytes : List ℕ) (n : ℕ) → PackedAt w vs bytes → n % 8 ≡ 0 → n ≤ length vs → PackedAt w (take n vs) (take (packed_len w n) bytes)
front w vs bytes n h whole within =
    let P : List ℤ → Type 0 = λ xs. PackedAt w xs bytes in
    let Q : ℕ → Type 0 = λ k. PackedAt w (take n vs) (take (packed_len w k) bytes) in
    let len : length (take n vs) ≡ n = length-take-le n vs within in
    let edge = ends_at_edge w (length (take n vs)) (n / 8) (omega arith) in
    subst Q len (packed-split w (take n vs) (drop n vs) bytes (subst P (sym (take-append-drop n vs)) h) edge).0

-- the bytes of one segment's values, which are a whole segment or all that are left
packed_part : (w : Width) (vs : List ℤ) (bytes : List ℕ) (from to : ℕ) → PackedAt w vs bytes → from % 2048 ≡ 0 → from ≤ length vs → to ≡ min (from + 2048) (length vs) → PackedAt w (take (to - from) (drop from vs)) (take (packed_len w to - packed_len w from) (drop (packed_len w from) bytes))
packed_part w vs bytes from to h whole within is =
    let ys : List ℤ = drop from vs in
    let rest : List ℕ = drop (packed_len w from) bytes in
    let there : PackedAt w ys rest = behind w vs bytes from h (omega arith) within in
    let left : length ys ≡ length vs - from = length-drop from vs in
    let blocks : 512 * (from / 512) ≡ from = omega arith in
    let more : packed_len w to ≡ packed_len w from + packed_len w (to - from) =
    let sum : to ≡ 512 * (from / 512) + (to - from) = omega arith in
    ap (packed_len w) sum ∙ packed_len-behind w (from / 512) (to - from) ∙ ap (λ k. packed_len w k + packed_len w (to - from)) blocks in
    let count : packed_len w to - packed_len w from ≡ packed_len w (to - from) = omega (arith, more) in
    let P : ℕ → Type 0 = λ k. PackedAt w (take (to - from) ys) (take k rest) in
    subst P (sym count)
    (elim (cases_lt 2048 (length ys)) [
      | inl full ↦ front w ys rest (to - from) there (let e : to - from ≡ 2048 = omega arith in omega (arith, e)) (omega arith)
      | inr last ↦
          let all : length ys ≤ to - from = omega arith in
          let n : length ys ≡ to - from = omega arith in
          let bytes_all : length rest ≤ packed_len w (to - from) = omega (arith, there.len, ap (packed_len w) n) in
          let Q : List ℤ → Type 0 = λ xs. PackedAt w xs (take (packed_len w (to - from)) rest) in
          let R : List ℕ → Type 0 = λ bs. PackedAt w ys bs in
          subst Q (sym (take_all (to - from) ys all)) (subst R (sym (take_all (packed_len w (to - from)) rest bytes_all)) there)
    ])

-- The values of the segment that is cut next, of n values that the bytes are: what its bytes are read as, and what they are packed.
pub segment_packed : (w : Width) (bytes : List ℕ) (n from to low high : ℕ) → PackedAt w (values_from w bytes 0 n) bytes → from % 2048 ≡ 0 → from ≤ n → to ≡ min (from + 2048) n → low ≡ packed_len w from → high ≡ packed_len w to → PackedAt w (values_from w (take (high - low) (drop low bytes)) 0 (to - from)) (take (high - low) (drop low bytes)) × (values_from w (take (high - low) (drop low bytes)) 0 (to - from) ≡ take (to - from) (drop from (values_from w bytes 0 n)))
segment_packed w bytes n from to low high h whole within is at_low at_high =
    let vs : List ℤ = values_from w bytes 0 n in
    let len : length vs ≡ n = length-values_from w bytes 0 n in
    let count : length (take (to - from) (drop from vs)) ≡ to - from = length-take-le (to - from) (drop from vs) (omega (arith, length-drop from vs)) in
    let part = packed_part w vs bytes from to h whole (omega arith) (omega (arith, is, len)) in
    let P : ℕ → Type 0 = λ k. PackedAt w (take (to - from) (drop from vs)) (take (packed_len w to - k) (drop k bytes)) in
    let Q : ℕ → Type 0 = λ k. PackedAt w (take (to - from) (drop from vs)) (take (k - low) (drop low bytes)) in
    packed_again w (take (to - from) (drop from vs)) (take (high - low) (drop low bytes)) (to - from) (subst Q (sym at_high) (subst P (sym at_low) part)) count

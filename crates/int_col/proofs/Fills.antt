-- Laws of the packed bytes of a column, a block of values at a time.
use Rattle.std.proofs.Common.{◌≡◌, ℕ, ◌+◌, ◌-◌, ◌*◌, ◌/◌, ◌%◌, ◌<◌, ◌≤◌, inl, inr, min, ℤ, List, ◌++◌, length, take, drop, sym, ap, subst, ◌∙◌, arith}
use Rattle.std.proofs.lemmas.Bool.{cases_lt}
use Rattle.std.proofs.lemmas.List.{take-append-drop, take_at, take_all, take-take, drop_at, drop-drop, drop-take, length-take-le, length-drop}
use Rattle.std.proofs.lemmas.List.Elements.{All-take, All-drop}
use Rattle.bit_pack.specs.declared.widths.Width.{Width}
use Rattle.bit_pack.specs.declared.widths.Width.TheVariants.{W0, W1, W2, W4, W8, W16, W32, W64}
use Rattle.bit_pack.specs.Width.{bit_count, Holds, HoldsAll, IsLeastWidth}
use Rattle.bit_pack.specs.Packed.{packed_len, packing}
use Rattle.bit_pack.proofs.Parts.{packing-append, length-packing, ends_at_edge}
use Rattle.bit_pack.proofs.LeastWidth.{same_least}
use Rattle.int_col.specs.Numbers.{HasPackedBytes}

-- n blocks are n times as many bytes
pub packed_len-blocks : (w : Width) (n : ℕ) → packed_len w (512 * n) ≡ packed_len w 512 * n
packed_len-blocks W0 n = omega arith
packed_len-blocks W1 n = omega arith
packed_len-blocks W2 n = omega arith
packed_len-blocks W4 n = omega arith
packed_len-blocks W8 n = omega arith
packed_len-blocks W16 n = omega arith
packed_len-blocks W32 n = omega arith
packed_len-blocks W64 n = omega arith

-- blocks and some values behind them
pub packed_len-behind : (w : Width) (n c : ℕ) → packed_len w (512 * n + c) ≡ packed_len w (512 * n) + packed_len w c
packed_len-behind W0 n c = omega arith
packed_len-behind W1 n c = omega arith
packed_len-behind W2 n c = omega arith
packed_len-behind W4 n c = omega arith
packed_len-behind W8 n c = omega arith
packed_len-behind W16 n c = omega arith
packed_len-behind W32 n c = omega arith
packed_len-behind W64 n c = omega arith

pub packed_len-few : (w : Width) (n : ℕ) → packed_len w n ≤ 8 * n
packed_len-few W0 n = omega arith
packed_len-few W1 n = omega arith
packed_len-few W2 n = omega arith
packed_len-few W4 n = omega arith
packed_len-few W8 n = omega arith
packed_len-few W16 n = omega arith
packed_len-few W32 n = omega arith
packed_len-few W64 n = omega arith

-- a width that takes bytes at all takes some for a block
pub packed_len-some : (w : Width) (n : ℕ) → 0 < packed_len w n → 0 < packed_len w 512
packed_len-some W0 n some = omega arith
packed_len-some W1 n some = omega arith
packed_len-some W2 n some = omega arith
packed_len-some W4 n some = omega arith
packed_len-some W8 n some = omega arith
packed_len-some W16 n some = omega arith
packed_len-some W32 n some = omega arith
packed_len-some W64 n some = omega arith

pub packed_len-rises : (w : Width) (m n : ℕ) → m ≤ n → packed_len w m ≤ packed_len w n
packed_len-rises W0 m n le = omega arith
packed_len-rises W1 m n le = omega arith
packed_len-rises W2 m n le = omega arith
packed_len-rises W4 m n le = omega arith
packed_len-rises W8 m n le = omega arith
packed_len-rises W16 m n le = omega arith
packed_len-rises W32 m n le = omega arith
packed_len-rises W64 m n le = omega arith

held_front : (w : Width) (n : ℕ) (xs : List ℤ) → HoldsAll w xs → HoldsAll w (take n xs)
held_front w n xs h = record { each = All-take (Holds w) n xs h.each }

held_back : (w : Width) (n : ℕ) (xs : List ℤ) → HoldsAll w xs → HoldsAll w (drop n xs)
held_back w n xs h = record { each = All-drop (Holds w) n xs h.each }

-- blocks, and what is packed behind them
packing-blocks : (w : Width) (xs : List ℤ) (f b : ℕ) → HoldsAll w xs → f ≡ 512 * b → f ≤ length xs → packing w xs ≡ packing w (take f xs) ++ packing w (drop f xs)
packing-blocks w xs f b h is within =
    let whole : take f xs ++ drop f xs ≡ xs = take-append-drop f xs in
    let P : List ℤ → Type 0 = λ ys. HoldsAll w ys in
    let len : length (take f xs) ≡ f = length-take-le f xs within in
    let edge : bit_count w * length (take f xs) ≡ 8 * packed_len w (length (take f xs)) = ends_at_edge w (length (take f xs)) (64 * b) (omega arith) in
    ap (packing w) (sym whole) ∙ packing-append w (take f xs) (drop f xs) (subst P (sym whole) h) edge

packing-front : (w : Width) (xs : List ℤ) (f b : ℕ) → HoldsAll w xs → f ≡ 512 * b → f ≤ length xs → take (packed_len w f) (packing w xs) ≡ packing w (take f xs)
packing-front w xs f b h is within =
    ap (take (packed_len w f)) (packing-blocks w xs f b h is within)
    ∙ take_at (packing w (take f xs)) (packing w (drop f xs)) (packed_len w f) (length-packing w (take f xs) ∙ ap (packed_len w) (length-take-le f xs within))

packing-back : (w : Width) (xs : List ℤ) (f b : ℕ) → HoldsAll w xs → f ≡ 512 * b → f ≤ length xs → drop (packed_len w f) (packing w xs) ≡ packing w (drop f xs)
packing-back w xs f b h is within =
    ap (drop (packed_len w f)) (packing-blocks w xs f b h is within)
    ∙ drop_at (packing w (take f xs)) (packing w (drop f xs)) (packed_len w f) (length-packing w (take f xs) ∙ ap (packed_len w) (length-take-le f xs within))

-- the packing of one block
block_bytes : (w : Width) (xs : List ℤ) (f b c : ℕ) → HoldsAll w xs → f ≡ 512 * b → f ≤ length xs → c ≡ min 512 (length xs - f) → take (packed_len w c) (drop (packed_len w f) (packing w xs)) ≡ packing w (take c (drop f xs))
block_bytes w xs f b c h is within count =
    ap (take (packed_len w c)) (packing-back w xs f b h is within)
    ∙ elim (cases_lt 512 (length xs - f)) [
      | inl more ↦ packing-front w (drop f xs) c 1 (held_back w f xs h) (omega arith) (omega (arith, length-drop f xs))
      | inr last ↦
          let all : length (drop f xs) ≡ c = omega (arith, length-drop f xs) in
          take_all (packed_len w c) (packing w (drop f xs)) (omega (arith, length-packing w (drop f xs), ap (packed_len w) all)) ∙ ap (packing w) (sym (take_all c (drop f xs) (omega arith)))
    ]

-- some bytes of a block
pub part_bytes : (w : Width) (xs : List ℤ) (from f b c skip n : ℕ) → HoldsAll w xs → f ≡ 512 * b → f ≤ length xs → c ≡ min 512 (length xs - f) → from ≡ packed_len w f + skip → skip + n ≤ packed_len w c → take n (drop from (packing w xs)) ≡ take n (drop skip (packing w (take c (drop f xs))))
part_bytes w xs from f b c skip n h is within count place enough =
    let bytes : List ℕ = packing w xs in
    let rest : List ℕ = drop (packed_len w f) bytes in
    let there : drop from bytes ≡ drop skip rest = ap (λ k. drop k bytes) place ∙ sym (drop-drop skip (packed_len w f) bytes) in
    let parts : packed_len w c ≡ skip + (packed_len w c - skip) = omega arith in
    let cut : take n (drop skip (take (packed_len w c) rest)) ≡ take n (drop skip rest) =
    ap (λ k. take n (drop skip (take k rest))) parts ∙ ap (take n) (drop-take skip (packed_len w c - skip) rest) ∙ take-take n (packed_len w c - skip) (drop skip rest) (omega arith) in
    ap (take n) there ∙ sym cut ∙ ap (λ ys. take n (drop skip ys)) (block_bytes w xs f b c h is within count)

-- the block that has a byte, and where the byte is in it
pub block_place : (w : Width) (size from n len : ℕ) → size ≡ packed_len w 512 → 0 < n → from + n ≤ packed_len w len → (0 < size) × (512 * (from / size) < len) × (packed_len w (512 * (from / size)) + from % size ≡ from) × (from % size < packed_len w (min 512 (len - 512 * (from / size))))
block_place w size from n len block some within =
    let positive : 0 < size = omega (arith, block, packed_len-some w len (omega arith)) in
    let q : ℕ = from / size in
    let r : ℕ = from % size in
    let parts : size * q + r ≡ from = omega arith in
    let small : r < size = omega arith in
    let start : packed_len w (512 * q) ≡ size * q = packed_len-blocks w q ∙ ap (λ k. k * q) (sym block) in
    let inside : 512 * q < len =
    elim (cases_lt (512 * q) len) [
      | inl less ↦ less
      | inr past ↦ absurd (omega (arith, packed_len-rises w len (512 * q) past, parts, start, some, within))
    ] in
    let short : r < packed_len w (min 512 (len - 512 * q)) =
    elim (cases_lt 512 (len - 512 * q)) [
      | inl more ↦ omega (arith, small, block, ap (packed_len w) (let e : min 512 (len - 512 * q) ≡ 512 = omega arith in e))
      | inr last ↦
          let count : min 512 (len - 512 * q) ≡ len - 512 * q = omega arith in
          let whole : 512 * q + (len - 512 * q) ≡ len = omega arith in
          omega (arith, ap (packed_len w) count, ap (packed_len w) whole, packed_len-behind w q (len - 512 * q), parts, start, some, within)
    ] in
    (positive, inside, omega (arith, parts, start), short)

-- the bytes are within the packing at the least width
pub within_least : (xs : List ℤ) (n : ℕ) (w : Width) → HasPackedBytes xs n → IsLeastWidth w xs → n ≤ packed_len w (length xs)
within_least xs n w has least =
    let P : Width → Type 0 = λ u. n ≤ packed_len u (length xs) in
    subst P (same_least has.0 w xs has.1 least) has.2

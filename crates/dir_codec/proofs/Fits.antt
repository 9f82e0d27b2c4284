-- Bytes are those of the number that they are.
use Rattle.std.proofs.Common.{◌≡◌, ℕ, zero, suc, ◌+◌, ◌-◌, ◌*◌, ◌/◌, ◌%◌, ◌^◌, ◌<◌, ◌≤◌, ⊎_elim, List, [], ◌∷◌, ◌++◌, length, length-drop, length-take, take, take-append-drop, drop, refl, sym, ◌∙◌, ap, arith, slice_index, subst}
use Rattle.std.proofs.Math.Nat.{div-div-eq-div-mul, div-one, pow-succ'}
use Rattle.std.proofs.lemmas.Bool.{cases_lt}
use Rattle.std.proofs.lemmas.List.{get_or-drop, get_or-take, get_or_past, length-take-le}
use Rattle.std.specs.Int.{byte_at, bytes_low_first}
use Rattle.byteorder.specs.Endian.{little_bytes, little_number}
use Rattle.byteorder.specs.Numbers.{little_from-append, little_from-cons}
use Rattle.mk_value.specs.declared.span.Span.{Span}
use Rattle.free_space.specs.Sites.{IsSite}
use Rattle.free_space.proofs.ExtentLemmas.{extent_len-aligned}
use Rattle.dir_codec.specs.Dir.{spelled_span}
use Rattle.dir_codec.specs.Fields.{number_of_field, span_of_field}
use Rattle.dir_codec.specs.Reads.{bytes_at}

byte_is : (i n : ℕ) → byte_at i n ≡ n / 256 ^ i % 256
byte_is zero n = ap (λ (q : ℕ). q % 256) (sym (div-one n))
byte_is (suc i) n = refl

-- the bytes of a number above its lowest are those of the number above that
byte_above : (i d y : ℕ) → d < 256 → byte_at (suc i) (d + 256 * y) ≡ byte_at i y
byte_above i d y low =
    let above : (d + 256 * y) / 256 ≡ y = omega arith in
    ap (λ (p : ℕ). (d + 256 * y) / p % 256) (pow-succ' 256 i)
    ∙ ap (λ (q : ℕ). q % 256) (sym (div-div-eq-div-mul (d + 256 * y) 256 (256 ^ i)) ∙ ap (λ (q : ℕ). q / 256 ^ i) above)
    ∙ sym (byte_is i y)

bytes_above : (k i d y : ℕ) → d < 256 → bytes_low_first (suc i) k (d + 256 * y) ≡ bytes_low_first i k y
bytes_above zero i d y low = refl
bytes_above (suc k) i d y low = ap (λ (b : ℕ). b ∷ bytes_low_first (suc (suc i)) k (d + 256 * y)) (byte_above i d y low) ∙ ap (λ (l : List ℕ). byte_at i y ∷ l) (bytes_above k (suc i) d y low)

-- bytes are those of the number that they are
pub bytes_back : (xs : List ℕ) → ((i : ℕ) → slice_index xs i < 256) → little_bytes (length xs) (little_number (length xs) xs) ≡ xs
bytes_back [] fits = refl
bytes_back (x ∷ xs) fits =
    let low : x < 256 = fits 0 in
    let y = little_number (length xs) xs in
    let number : little_number (length (x ∷ xs)) (x ∷ xs) ≡ x + 256 * y = ap (λ (k : ℕ). x + 256 * k) (little_from-cons 0 (length xs) x xs) in
    let first : (x + 256 * y) % 256 ≡ x = omega arith in
    ap (λ (k : ℕ). little_bytes (length (x ∷ xs)) k) number
    ∙ ap (λ (b : ℕ). b ∷ bytes_low_first 1 (length xs) (x + 256 * y)) first
    ∙ ap (λ (l : List ℕ). x ∷ l) (bytes_above (length xs) 0 x y low ∙ bytes_back xs (λ i. fits (suc i)))

-- the bytes of a part are bytes
pub part_fits : (at len : ℕ) (bytes : List ℕ) → ((i : ℕ) → slice_index bytes i < 256) → (i : ℕ) → slice_index (bytes_at at len bytes) i < 256
part_fits at len bytes fits i = ⊎_elim
    (λ inside. subst (λ (b : ℕ). b < 256) (sym (get_or-take len (drop at bytes) i 0 inside ∙ get_or-drop at bytes i 0)) (fits (at + i)))
    (λ past. subst (λ (b : ℕ). b < 256) (sym (get_or_past (bytes_at at len bytes) i 0 (let l = length-take len (drop at bytes) in omega (arith, l, past)))) (omega arith))
    (cases_lt i len)

-- a field of four bytes, and one of eight, is the spelling of its number
pub spelled_number : (field : List ℕ) → ((i : ℕ) → slice_index field i < 256) → field ≡ little_bytes (length field) (number_of_field field)
spelled_number field fits = sym (bytes_back field fits)

-- of an end that is no multiple of 16 a site sees the last one below it
pub site_below : (end : ℕ) (s : Span) → IsSite end s → IsSite (end - end % 16) s
site_below end s site = record {
  aligned = site.aligned;
  behind = site.behind;
  some = site.some;
  within = let a = site.aligned in let b = extent_len-aligned s.len in let w = site.within in omega (arith, a, b, w);
}

pub site_above : (end : ℕ) (s : Span) → IsSite (end - end % 16) s → IsSite end s
site_above end s site = record { aligned = site.aligned; behind = site.behind; some = site.some; within = let w = site.within in omega (arith, w) }

pub part_length : (at len : ℕ) (bytes : List ℕ) → at + len ≤ length bytes → length (bytes_at at len bytes) ≡ len
part_length at len bytes whole = length-take-le len (drop at bytes) (let l = length-drop at bytes in omega (arith, l, whole))

-- a number that was read of a field is the field's, and spelled so
pub number_read : (len at n : ℕ) (bytes field : List ℕ) → ((i : ℕ) → slice_index bytes i < 256) → at + len ≤ length bytes → field ≡ bytes_at at len bytes → n ≡ little_number len field
    → (n ≡ number_of_field (bytes_at at len bytes)) × (bytes_at at len bytes ≡ little_bytes len n)
number_read len at n bytes field fits whole is number =
    let f = bytes_at at len bytes in
    let long : length f ≡ len = part_length at len bytes whole in
    let same : n ≡ number_of_field f = number ∙ ap (λ (l : List ℕ). little_number len l) is ∙ ap (λ (k : ℕ). little_number k f) (sym long) in
    (same, spelled_number f (part_fits at len bytes fits) ∙ ap (λ (k : ℕ). little_bytes k (number_of_field f)) long ∙ ap (λ (k : ℕ). little_bytes len k) (sym same))

-- the same of a span
pub span_read : (at : ℕ) (s : Span) (bytes field : List ℕ) → ((i : ℕ) → slice_index bytes i < 256) → at + 16 ≤ length bytes → field ≡ bytes_at at 16 bytes
    → s.place ≡ little_number 8 (take 8 field) → s.len ≡ little_number 8 (drop 8 field) → (s ≡ span_of_field (bytes_at at 16 bytes)) × (bytes_at at 16 bytes ≡ spelled_span s)
span_read at s bytes field fits whole is place len =
    let f = bytes_at at 16 bytes in
    let span : ℕ → ℕ → Span = λ p l. record { place = p; len = l } in
    let long : length f ≡ 16 = part_length at 16 bytes whole in
    let parts : take 8 f ++ drop 8 f ≡ f = take-append-drop 8 f in
    let front_long : length (take 8 f) ≡ 8 = length-take-le 8 f (omega (arith, long)) in
    let back_long : length (drop 8 f) ≡ 8 = let l = length-drop 8 f in omega (arith, l, long) in
    let front : little_number 8 f ≡ little_number 8 (take 8 f) = ap (λ (l : List ℕ). little_number 8 l) (sym parts) ∙ little_from-append 8 (take 8 f) (drop 8 f) (omega (arith, front_long)) in
    let byte = part_fits at 16 bytes fits in
    let place_is : s.place ≡ little_number 8 (take 8 f) = place ∙ ap (λ (l : List ℕ). little_number 8 (take 8 l)) is in
    let len_is : s.len ≡ little_number 8 (drop 8 f) = len ∙ ap (λ (l : List ℕ). little_number 8 (drop 8 l)) is in
    let first : take 8 f ≡ little_bytes 8 s.place = spelled_number (take 8 f) (part_fits 0 8 f byte) ∙ ap (λ (k : ℕ). little_bytes k (little_number k (take 8 f))) front_long ∙ ap (λ (k : ℕ). little_bytes 8 k) (sym place_is) in
    let second : drop 8 f ≡ little_bytes 8 s.len = spelled_number (drop 8 f) (λ i. subst (λ (b : ℕ). b < 256) (sym (get_or-drop 8 f i 0)) (byte (8 + i))) ∙ ap (λ (k : ℕ). little_bytes k (little_number k (drop 8 f))) back_long ∙ ap (λ (k : ℕ). little_bytes 8 k) (sym len_is) in (
      ap (λ (p : ℕ). span p s.len) (place_is ∙ sym front) ∙ ap (λ (l : ℕ). span (little_number 8 f) l) len_is,
      sym parts ∙ ap (λ (l : List ℕ). l ++ drop 8 f) first ∙ ap (λ (l : List ℕ). little_bytes 8 s.place ++ l) second,
    )

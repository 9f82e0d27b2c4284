-- Where the digit of a value stands in the bytes: in whole bytes, or within one byte.
use Rattle.std.proofs.Common.{◌≡◌, ℕ, suc, ◌+◌, ◌-◌, ◌*◌, ◌/◌, ◌%◌, ◌^◌, ◌<◌, ◌≤◌, List, ◌++◌, length, map, get_or, set, take, drop, sym, ap, subst, ◌∙◌, arith}
use Rattle.std.proofs.Math.Nat.{mul_assoc, div-div-eq-div-mul, add-mul-mod_self_left, mod-le, pow-le-pow_right, mul-le-mul_right}
use Rattle.std.proofs.lemmas.Nat.{pow-add, pow_pos, field_of, shr_split, shr_below, shl_below, mod_below}
use Rattle.std.proofs.lemmas.List.{get_or-take, get_or-drop, length-take, length-drop, same_lists, get_or_default, drop-drop, drop_more}
use Rattle.std.proofs.lemmas.List.FromFn.{length-map-range_with_len, get_or-map-range_with_len}
use Rattle.std.specs.List.{range_with_len}
use Rattle.bit_pack.specs.Packed.{number_of}
use Rattle.bit_pack.proofs.Digits.{AreDigits, pow-mul, number_of-append, number_of-window, number_of-div, number_of-split, number_of-set}

-- k bytes from place m on, one by one
pub window_is : (k m : ℕ) (bytes : List ℕ) → m + k ≤ length bytes → take k (drop m bytes) ≡ map (λ j. get_or bytes (m + j) 0) (range_with_len 0 k)
window_is k m bytes within =
    let len : length (take k (drop m bytes)) ≡ k = simp (length-take, length-drop) (omega arith) in
    let made : length (map (λ j. get_or bytes (m + j) 0) (range_with_len 0 k)) ≡ k = length-map-range_with_len (λ j. get_or bytes (m + j) 0) 0 k in
    same_lists (take k (drop m bytes)) (map (λ j. get_or bytes (m + j) 0) (range_with_len 0 k)) (len ∙ sym made) (λ i d below.
    let inside : i < k = omega (arith, below, len) in
    let there : m + i < length bytes = omega arith in
    get_or-take k (drop m bytes) i d inside ∙ get_or-drop m bytes i d ∙ get_or_default bytes (m + i) d 0 there ∙ sym (get_or-map-range_with_len (λ j. get_or bytes (m + j) 0) 0 k i i d inside (omega arith)))

-- a digit of k whole bytes
pub wide_digit : (k i : ℕ) (bytes : List ℕ) → AreDigits 256 bytes → number_of 256 bytes / 2 ^ (8 * (k * i)) % 2 ^ (8 * k) ≡ number_of 256 (take k (drop (k * i) bytes))
wide_digit k i bytes h =
    let place : 2 ^ (8 * (k * i)) ≡ 256 ^ (k * i) = pow-mul 2 8 (k * i) in
    let base : 2 ^ (8 * k) ≡ 256 ^ k = pow-mul 2 8 k in
    ap (λ (n : ℕ). number_of 256 bytes / n % 2 ^ (8 * k)) place ∙ ap (λ (n : ℕ). number_of 256 bytes / 256 ^ (k * i) % n) base ∙ number_of-window 256 (k * i) k bytes (omega arith) h

-- the bytes from place m on replaced by as many others
pub number_of-splice : (m : ℕ) (bytes ys : List ℕ) → m + length ys ≤ length bytes → number_of 256 (take m bytes ++ (ys ++ drop (m + length ys) bytes)) + 256 ^ m * number_of 256 (take (length ys) (drop m bytes)) ≡ number_of 256 bytes + 256 ^ m * number_of 256 ys
number_of-splice m bytes ys within =
    let n = length ys in
    let front = number_of 256 (take m bytes) in
    let tail = number_of 256 (drop (m + n) bytes) in
    let mid = number_of 256 (take n (drop m bytes)) in
    let front_len : length (take m bytes) ≡ m = simp length-take (omega arith) in
    let outer : number_of 256 (take m bytes ++ (ys ++ drop (m + n) bytes)) ≡ front + 256 ^ m * number_of 256 (ys ++ drop (m + n) bytes) = number_of-append 256 (take m bytes) (ys ++ drop (m + n) bytes) ∙ ap (λ (k : ℕ). front + 256 ^ k * number_of 256 (ys ++ drop (m + n) bytes)) front_len in
    let inner : number_of 256 (ys ++ drop (m + n) bytes) ≡ number_of 256 ys + 256 ^ n * tail = number_of-append 256 ys (drop (m + n) bytes) in
    let old : number_of 256 bytes ≡ front + 256 ^ m * number_of 256 (drop m bytes) = number_of-split 256 m bytes in
    let old_rest : number_of 256 (drop m bytes) ≡ mid + 256 ^ n * tail = number_of-split 256 n (drop m bytes) ∙ ap (λ (xs : List ℕ). mid + 256 ^ n * number_of 256 xs) (drop-drop n m bytes) in
    let new_number : 256 ^ m * number_of 256 (ys ++ drop (m + n) bytes) ≡ 256 ^ m * (number_of 256 ys + 256 ^ n * tail) = ap (λ (k : ℕ). 256 ^ m * k) inner in
    let old_number : 256 ^ m * number_of 256 (drop m bytes) ≡ 256 ^ m * (mid + 256 ^ n * tail) = ap (λ (k : ℕ). 256 ^ m * k) old_rest in
    omega (arith, outer, old, new_number, old_number)

-- bits s up to s + w of a number are those of its lowest byte
within_byte : (b rest s w : ℕ) → s + w ≤ 8 → (b + 256 * rest) / 2 ^ s % 2 ^ w ≡ b / 2 ^ s % 2 ^ w
within_byte b rest s w within =
    let n = b + 256 * rest in
    let turned : w + s + (8 - (w + s)) ≡ 8 = omega arith in
    let byte : 256 ≡ 2 ^ (w + s) * 2 ^ (8 - (w + s)) = ap (λ (k : ℕ). 2 ^ k) (sym turned) ∙ pow-add 2 (w + s) (8 - (w + s)) in
    let multiple : 256 * rest ≡ 2 ^ (w + s) * (2 ^ (8 - (w + s)) * rest) = ap (λ (k : ℕ). k * rest) byte ∙ mul_assoc (2 ^ (w + s)) (2 ^ (8 - (w + s))) rest in
    let low : n % 2 ^ (w + s) ≡ b % 2 ^ (w + s) = ap (λ (k : ℕ). (b + k) % 2 ^ (w + s)) multiple ∙ add-mul-mod_self_left b (2 ^ (w + s)) (2 ^ (8 - (w + s)) * rest) in
    sym (field_of n w s) ∙ ap (λ (k : ℕ). k / 2 ^ s) low ∙ field_of b w s

-- a digit of w bits within byte q, from bit s on
pub narrow_digit : (w q s : ℕ) (bytes : List ℕ) → s + w ≤ 8 → q < length bytes → AreDigits 256 bytes → number_of 256 bytes / 2 ^ (8 * q + s) % 2 ^ w ≡ get_or bytes q 0 / 2 ^ s % 2 ^ w
narrow_digit w q s bytes within there h =
    let place : 2 ^ (8 * q + s) ≡ 256 ^ q * 2 ^ s = pow-add 2 (8 * q) s ∙ ap (λ (k : ℕ). k * 2 ^ s) (pow-mul 2 8 q) in
    let from_byte : number_of 256 bytes / 2 ^ (8 * q + s) ≡ number_of 256 (drop q bytes) / 2 ^ s = ap (λ (k : ℕ). number_of 256 bytes / k) place ∙ sym (div-div-eq-div-mul (number_of 256 bytes) (256 ^ q) (2 ^ s)) ∙ ap (λ (k : ℕ). k / 2 ^ s) (number_of-div 256 q bytes (omega arith) h) in
    let first : number_of 256 (drop q bytes) ≡ get_or bytes q 0 + 256 * number_of 256 (drop (q + 1) bytes) = ap (number_of 256) (drop_more bytes q 0 there) in
    ap (λ (k : ℕ). k % 2 ^ w) from_byte ∙ ap (λ (k : ℕ). k / 2 ^ s % 2 ^ w) first ∙ within_byte (get_or bytes q 0) (number_of 256 (drop (q + 1) bytes)) s w within

-- Another digit d in a byte b: the field from bit s on goes, and d stands there.
pub narrow_change : (w q s y d : ℕ) (bytes : List ℕ) → q < length bytes → y + 2 ^ s * (get_or bytes q 0 / 2 ^ s % 2 ^ w) ≡ get_or bytes q 0 + 2 ^ s * d → number_of 256 (set bytes q y) + 2 ^ (8 * q + s) * (get_or bytes q 0 / 2 ^ s % 2 ^ w) ≡ number_of 256 bytes + 2 ^ (8 * q + s) * d
narrow_change w q s y d bytes there changed =
    let g = get_or bytes q 0 / 2 ^ s % 2 ^ w in
    let place : 2 ^ (8 * q + s) ≡ 256 ^ q * 2 ^ s = pow-add 2 (8 * q) s ∙ ap (λ (k : ℕ). k * 2 ^ s) (pow-mul 2 8 q) in
    let old : 2 ^ (8 * q + s) * g ≡ 256 ^ q * (2 ^ s * g) = ap (λ (k : ℕ). k * g) place ∙ mul_assoc (256 ^ q) (2 ^ s) g in
    let new : 2 ^ (8 * q + s) * d ≡ 256 ^ q * (2 ^ s * d) = ap (λ (k : ℕ). k * d) place ∙ mul_assoc (256 ^ q) (2 ^ s) d in
    let byte : 256 ^ q * (y + 2 ^ s * g) ≡ 256 ^ q * (get_or bytes q 0 + 2 ^ s * d) = ap (λ (k : ℕ). 256 ^ q * k) changed in
    omega (arith, old, new, byte, number_of-set 256 q bytes y there)

-- a field in its place is no more than the byte
pub field_in_place : (b s w : ℕ) → (b / 2 ^ s % 2 ^ w) * 2 ^ s ≤ b
field_in_place b s w =
    let within : b / 2 ^ s % 2 ^ w ≤ b / 2 ^ s = mod-le (b / 2 ^ s) (2 ^ w) in
    let placed : (b / 2 ^ s % 2 ^ w) * 2 ^ s ≤ b / 2 ^ s * 2 ^ s = mul-le-mul_right (2 ^ s) within in
    omega (arith, placed, shr_split b s)

-- another field in its place is below a byte's end
pub new_field_in_place : (d s w : ℕ) → s + w ≤ 8 → d < 2 ^ w → d * 2 ^ s < 256
new_field_in_place d s w within small =
    let placed : d * 2 ^ s < 2 ^ (w + s) = shl_below d w s small in
    let short : w + s ≤ 8 = omega arith in
    let grows : 2 ^ (w + s) ≤ 2 ^ 8 = pow-le-pow_right (omega arith) short in
    omega arith

-- the byte with another field stays a byte
pub field_change_fits : (b s w d : ℕ) → s + w ≤ 8 → b < 256 → d < 2 ^ w → b - (b / 2 ^ s % 2 ^ w) * 2 ^ s + d * 2 ^ s < 256
field_change_fits b s w d within byte small =
    let m = b / 2 ^ s in
    let g = m % 2 ^ w in
    let high = m / 2 ^ w in
    let low = b % 2 ^ s in
    let whole : m * 2 ^ s + low ≡ b = shr_split b s in
    let parts : high * 2 ^ w + g ≡ m = shr_split m w in
    let low_small : low < 2 ^ s = mod_below b (2 ^ s) (pow_pos s) in
    let turned : 8 - s - w + w + s ≡ 8 = omega arith in
    let top : 2 ^ (8 - s - w + w + s) ≡ 2 ^ (8 - s - w) * 2 ^ w * 2 ^ s = pow-add 2 (8 - s - w + w) s ∙ ap (λ (k : ℕ). k * 2 ^ s) (pow-add 2 (8 - s - w) w) in
    let all : 256 ≡ 2 ^ (8 - s - w) * 2 ^ w * 2 ^ s = ap (λ (k : ℕ). 2 ^ k) (sym turned) ∙ top in
    let m_small : m < 2 ^ (8 - s - w + w) = shr_below b (8 - s - w + w) s (subst (λ (k : ℕ). b < 2 ^ k) (sym turned) byte) in
    let high_small : high < 2 ^ (8 - s - w) = shr_below m (8 - s - w) w m_small in
    let changed_small : (high * 2 ^ w + d + 1) * 2 ^ s ≤ 2 ^ (8 - s - w) * 2 ^ w * 2 ^ s =
    let step : suc high * 2 ^ w ≤ 2 ^ (8 - s - w) * 2 ^ w = mul-le-mul_right (2 ^ w) high_small in
    mul-le-mul_right (2 ^ s) (omega (arith, step, small)) in
    let old_part : (high * 2 ^ w + g) * 2 ^ s ≡ m * 2 ^ s = ap (λ (k : ℕ). k * 2 ^ s) parts in
    omega (arith, whole, low_small, all, changed_small, old_part)

-- Which texts spell numbers.
use Rattle.std.proofs.Common.{◌≡◌, ℕ, zero, suc, ◌<◌, ◌^◌, ◌⊎◌, inl, inr, List, [], ◌∷◌, length, Result, Ok, Err, sym, ap, ◌∙◌, arith, lit<, slice_index, decimal, IfSome, IfNone}
use Rattle.std.specs.Result.{result_ok}
use Rattle.std.specs.Str.Parse.{AllDigits, ParsesUnsigned, digits_value}
use Rattle.std.proofs.lemmas.Str.Parse.{IsNumeralModel, numerals_by_value, tells_digits, not_in_digits, parse_plain}
use Rattle.std.proofs.lemmas.Bool.{cases_lt}
use Rattle.std.proofs.lemmas.Fmt.{decimal-digits_value, decimal_digit, decimal_nonempty, digits_decimal, first_decimal, parse-decimal}

own : IsNumeralModel (AllDigits 10) (digits_value 10)
own = numerals_by_value (AllDigits 10) tells_digits

-- a text that begins with a sign, or with a zero that is not all of it
abbrev pub HasSignOrZero : List ℕ → Type 0
HasSignOrZero text = (slice_index text 0 ≡ 43) ⊎ ((slice_index text 0 ≡ 48) × (1 < length text))

zero_is_short : slice_index (decimal 0) 0 ≡ 48 → 1 < length (decimal 0) → ⊥
zero_is_short first long =
    let one : decimal 0 ≡ 48 ∷ [] = decimal_digit 0 (lit< tt) in
    let short : length (decimal 0) ≡ 1 = ap length one in
    omega (arith, short, long)

-- no number is written so
pub decimal_is_plain : (n : ℕ) → n < 2 ^ 64 → HasSignOrZero (decimal n) → ⊥
decimal_is_plain n small (inl plus) =
    not_in_digits own (decimal n) 43 (digits_decimal own n small) (λ range. omega (arith, range)) 0 (decimal_nonempty n small) plus
decimal_is_plain zero small (inr (first, long)) = zero_is_short first long
decimal_is_plain (suc n) small (inr (first, long)) =
    let more = first_decimal (suc n) (omega arith) small in
    omega (arith, more, first)

-- what a plain text is read as is written so again
pub spelled_by_plain : {E : Type 0} (text : List ℕ) (read : Result ℕ E) → ParsesUnsigned 64 10 text read → (HasSignOrZero text → ⊥)
    → IfSome (result_ok read) (λ n. text ≡ decimal n)
spelled_by_plain {E} text (Err e) parses plain = tt
spelled_by_plain {E} text (Ok n) parses plain =
    let digits = parse_plain own {E = E} 64 text (Ok n) parses (λ plus. plain (inl plus)) in
    let short : slice_index text 0 ≡ 48 → length text ≡ 1 = λ first. elim (cases_lt 1 (length text)) [
      | inl long ↦ absurd (plain (inr (first, long)))
      | inr few ↦ omega (arith, digits.0.1)
    ] in
    let again = decimal-digits_value own text digits.0.0 digits.0.1 short digits.0.2 in
    sym again ∙ ap decimal (sym digits.1)

-- what spells a number is read
pub read_where_spelled : {E : Type 0} (text : List ℕ) (read : Result ℕ E) → ParsesUnsigned 64 10 text read
    → IfNone (result_ok read) ((n : ℕ) → n < 2 ^ 64 → text ≡ decimal n → ⊥)
read_where_spelled text (Ok n) parses = tt
read_where_spelled text (Err e) parses = λ n small spelled.
    let bad = parse-decimal 64 n text (Err e) small small spelled parses in
    cc

-- What stands in quotes, decoded: it is what was spelled, and is UTF-8 exactly where its spelling is.
use Rattle.std.proofs.Common.{◌≡◌, ◌≢◌, ℕ, zero, suc, ◌+◌, ◌*◌, ◌/◌, ◌%◌, ◌<◌, ◌≤◌, true, List, [], ◌∷◌, ◌++◌, length, get_or, refl, ap, sym, subst, ◌∙◌, append-nil, arith, inl, inr, length-append, lit<, Option, Some, None}
use Rattle.std.proofs.lemmas.Bool.{and_from, and_parts, cases_eq, cases_lt, ne_eqb}
use Rattle.std.proofs.lemmas.Bool.Decides.{nat_tests}
use Rattle.std.proofs.lemmas.List.Elements.{All-head, All-tail}
use Rattle.std.proofs.lemmas.Str.{IsUtf8-append, IsUtf8-nil, IsUtf8-past_char, byte_from_char, encode_ascii, inside_one, IsUtf8-from_ascii, len_utf8_bounds, length-encode}
use Rattle.std.specs.Char.{encode_utf8}
use Rattle.std.specs.List.{All, flat_map}
use Rattle.std.specs.Str.{IsAscii, IsUtf8}
use lib.Utf8.{encodes, scalar, scalars}
use Rattle.mk_value.specs.Tokens.{escaped, hex_digit, hex_pair}
use Rattle.mk_value.proofs.Escapes.{escaped-append, escaped_character, escaped_high, escaped_plain}
use Rattle.tokens.specs.Finding.{IsByte}
use Rattle.tokens.specs.Meanings.{behind_digit, characters_of, digit_value, pairs_of}

-- what was spelled is read again
characters_plain : (b : ℕ) (x : List ℕ) → b ≢ 92 → characters_of (b ∷ x) ≡ b ∷ characters_of x
characters_plain b x n = rw (ne_eqb b 92 n) refl

characters_escaped : (b : ℕ) (x : List ℕ) → characters_of (escaped b ++ x) ≡ b ∷ characters_of x
characters_escaped b x = elim (cases_eq b 34) [
  | inl q ↦ rw q refl
  | inr q ↦ elim (cases_eq b 92) [
    | inl s ↦ rw s refl
    | inr s ↦ elim (cases_eq b 10) [
      | inl n ↦ rw n refl
      | inr n ↦ ap (λ e. characters_of (e ++ x)) (escaped_plain b q s n) ∙ characters_plain b x s
    ]
  ]
]

pub characters-escaped : (held : List ℕ) → characters_of (flat_map escaped held) ≡ held
characters-escaped [] = refl
characters-escaped (b ∷ held) = characters_escaped b (flat_map escaped held) ∙ ap (λ x. b ∷ x) (characters-escaped held)

digit_value-hex : (n : ℕ) → n < 16 → digit_value (hex_digit n) ≡ n
digit_value-hex n small = grind (arith, nat_tests)

pub pairs-hex : (held : List ℕ) → All IsByte held → pairs_of (flat_map hex_pair held) ≡ held
pairs-hex [] may = refl
pairs-hex (b ∷ held) may =
    let small : b < 256 = All-head IsByte b held may in
    let high : digit_value (hex_digit (b / 16)) ≡ b / 16 = digit_value-hex (b / 16) (omega arith) in
    let low : digit_value (hex_digit (b % 16)) ≡ b % 16 = digit_value-hex (b % 16) (omega arith) in
    let whole : 16 * digit_value (hex_digit (b / 16)) + digit_value (hex_digit (b % 16)) ≡ b = omega (arith, high, low) in
    let same : (16 * digit_value (hex_digit (b / 16)) + digit_value (hex_digit (b % 16))) % 256 ≡ b = ap (λ n. n % 256) whole ∙ omega arith in
    ap (λ n. n ∷ pairs_of (flat_map hex_pair held)) same ∙ ap (λ x. b ∷ x) (pairs-hex held (All-tail IsByte b held may))

-- A high byte stands for itself, and nothing else is spelled with it in front.
first_high : (h x : ℕ) (r s : List ℕ) → 128 ≤ x → x ∷ r ≡ escaped h ++ s → (h ≡ x) × (r ≡ s)
first_high h x r s high e = elim (cases_eq h 34) [
  | inl q ↦ absurd (let f : x ∷ r ≡ 92 ∷ 34 ∷ s = e ∙ ap (λ n. escaped n ++ s) q in let g : x ≡ 92 = cc in omega (arith, g, high))
  | inr q ↦ elim (cases_eq h 92) [
    | inl b ↦ absurd (let f : x ∷ r ≡ 92 ∷ 92 ∷ s = e ∙ ap (λ n. escaped n ++ s) b in let g : x ≡ 92 = cc in omega (arith, g, high))
    | inr b ↦ elim (cases_eq h 10) [
      | inl n ↦ absurd (let f : x ∷ r ≡ 92 ∷ 110 ∷ s = e ∙ ap (λ n. escaped n ++ s) n in let g : x ≡ 92 = cc in omega (arith, g, high))
      | inr n ↦ let f : x ∷ r ≡ h ∷ s = e ∙ ap (λ t. t ++ s) (escaped_plain h q b n) in (cc, cc)
    ]
  ]
]

strip_high : (xs ys held : List ℕ) → ((k : ℕ) → k < length xs → 128 ≤ get_or xs k 0) → xs ++ ys ≡ flat_map escaped held → (more : List ℕ) × (held ≡ xs ++ more) × (ys ≡ flat_map escaped more)
strip_high [] ys held high e = (held, refl, e)
strip_high (x ∷ xs) ys [] high e = absurd (let f : x ∷ (xs ++ ys) ≡ [] = e in cc)
strip_high (x ∷ xs) ys (h ∷ held) high e =
    let first = first_high h x (xs ++ ys) (flat_map escaped held) (high 0 (omega arith)) e in
    let more = strip_high xs ys held (λ k p. high (suc k) (omega arith)) first.1 in
    (more.0, ap (λ y. y ∷ held) first.0 ∙ ap (λ y. x ∷ y) more.1, more.2)

high_character : (c : ℕ) → 128 ≤ c → (k : ℕ) → k < length (encode_utf8 c) → 128 ≤ get_or (encode_utf8 c) k 0
high_character c wide k p = elim (cases_lt (get_or (encode_utf8 c) k 0) 128) [
  | inl low ↦ absurd (omega (arith, inside_one c [] (encode_utf8 c) k (sym (append-nil _)) p low))
  | inr high ↦ high
]

-- ASCII in front
ascii_one : (x : ℕ) → x < 128 → IsAscii (x ∷ [])
ascii_one x p zero = p
ascii_one x p (suc i) = lit< tt

ascii_front : (x : ℕ) (rest : List ℕ) → x < 128 → IsUtf8 rest → IsUtf8 (x ∷ rest)
ascii_front x rest p u = IsUtf8-append (x ∷ []) rest (IsUtf8-from_ascii (x ∷ []) (ascii_one x p)) u

past_ascii : (x : ℕ) (rest : List ℕ) → x < 128 → IsUtf8 (x ∷ rest) → IsUtf8 rest
past_ascii x rest p u = IsUtf8-past_char (x ∷ rest) rest x u (sym (ap (λ y. y ++ rest) (encode_ascii x p)))

one_character : (c : ℕ) → scalars (c ∷ []) ≡ true → IsUtf8 (encode_utf8 c)
one_character c s = (c ∷ [], (s, append-nil (encode_utf8 c)))

first_scalar : (c : ℕ) (cs : List ℕ) → scalars (c ∷ cs) ≡ true → scalars (c ∷ []) ≡ true
first_scalar c cs s = and_from (scalar c) true (and_parts (scalar c) (scalars cs) s).0 refl

-- the spelling of a text is UTF-8
escaped_one : (c : ℕ) → scalars (c ∷ []) ≡ true → IsUtf8 (flat_map escaped (encode_utf8 c))
unfolding encode_utf8
escaped_one c s = elim (cases_eq c 34) [
  | inl q ↦ subst (λ n. IsUtf8 (flat_map escaped (encode_utf8 n))) (sym q) (ascii_front 92 (34 ∷ []) (lit< tt) (ascii_front 34 [] (lit< tt) IsUtf8-nil))
  | inr q ↦ elim (cases_eq c 92) [
    | inl b ↦ subst (λ n. IsUtf8 (flat_map escaped (encode_utf8 n))) (sym b) (ascii_front 92 (92 ∷ []) (lit< tt) (ascii_front 92 [] (lit< tt) IsUtf8-nil))
    | inr b ↦ elim (cases_eq c 10) [
      | inl n ↦ subst (λ n. IsUtf8 (flat_map escaped (encode_utf8 n))) (sym n) (ascii_front 92 (110 ∷ []) (lit< tt) (ascii_front 110 [] (lit< tt) IsUtf8-nil))
      | inr n ↦ subst IsUtf8 (sym (escaped_character c q b n)) (one_character c s)
    ]
  ]
]

pub IsUtf8-escaped : (held : List ℕ) → IsUtf8 held → IsUtf8 (flat_map escaped held)
IsUtf8-escaped held u = subst (λ x. IsUtf8 (flat_map escaped x)) u.1.1 (all u.0 u.1.0)
  where
    all : (cs : List ℕ) → scalars cs ≡ true → IsUtf8 (flat_map escaped (encodes cs))
    all [] s = IsUtf8-nil
    all (c ∷ cs) s =
        subst IsUtf8 (sym (escaped-append (encode_utf8 c) (encodes cs)))
        (IsUtf8-append (flat_map escaped (encode_utf8 c)) (flat_map escaped (encodes cs)) (escaped_one c (first_scalar c cs s)) (all cs (and_parts (scalar c) (scalars cs) s).1))

-- what stands behind the spelling of an ASCII byte
behind_low : (h : ℕ) (rest : List ℕ) → h < 128 → IsUtf8 (escaped h ++ rest) → IsUtf8 rest
behind_low h rest low u = elim (cases_eq h 34) [
  | inl q ↦ past_ascii 34 rest (lit< tt) (past_ascii 92 (34 ∷ rest) (lit< tt) (subst (λ n. IsUtf8 (escaped n ++ rest)) q u))
  | inr q ↦ elim (cases_eq h 92) [
    | inl b ↦ past_ascii 92 rest (lit< tt) (past_ascii 92 (92 ∷ rest) (lit< tt) (subst (λ n. IsUtf8 (escaped n ++ rest)) b u))
    | inr b ↦ elim (cases_eq h 10) [
      | inl n ↦ past_ascii 110 rest (lit< tt) (past_ascii 92 (110 ∷ rest) (lit< tt) (subst (λ n. IsUtf8 (escaped n ++ rest)) n u))
      | inr n ↦ past_ascii h rest low (subst (λ x. IsUtf8 (x ++ rest)) (escaped_plain h q b n) u)
    ]
  ]
]

wide_front : (n h : ℕ) (held : List ℕ) → length (h ∷ held) ≤ n + 1 → 128 ≤ h → (cs : List ℕ) → scalars cs ≡ true → encodes cs ≡ flat_map escaped (h ∷ held)
    → ((more : List ℕ) → length more ≤ n → IsUtf8 (flat_map escaped more) → IsUtf8 more) → IsUtf8 (h ∷ held)
wide_front n h held p high [] s e back = absurd (let f : [] ≡ h ∷ flat_map escaped held = e ∙ ap (λ x. x ++ flat_map escaped held) (escaped_high h high) in cc)
wide_front n h held p high (c ∷ cs) s e back = elim (cases_lt c 128) [
  | inl low ↦ absurd (let first = byte_from_char (h ∷ flat_map escaped held) (encodes cs) c (sym (e ∙ ap (λ x. x ++ flat_map escaped held) (escaped_high h high))) low in omega (arith, first, low, high))
  | inr big ↦
      let more = strip_high (encode_utf8 c) (encodes cs) (h ∷ held) (high_character c big) e in
      let size = ap length more.1 ∙ length-append (encode_utf8 c) more.0 in
      let some = (len_utf8_bounds c).0 in
      let long = length-encode c in
      let short : length more.0 ≤ n = omega (arith, size, some, long, p) in
      subst IsUtf8 (sym more.1)
      (IsUtf8-append (encode_utf8 c) more.0 (one_character c (first_scalar c cs s)) (back more.0 short (cs, ((and_parts (scalar c) (scalars cs) s).1, more.2))))
]

utf8_back : (n : ℕ) (held : List ℕ) → length held ≤ n → IsUtf8 (flat_map escaped held) → IsUtf8 held
utf8_back n [] p u = IsUtf8-nil
utf8_back zero (h ∷ held) p u = absurd (omega arith)
utf8_back (suc n) (h ∷ held) p u = elim (cases_lt h 128) [
  | inl low ↦ ascii_front h held low (utf8_back n held (omega arith) (behind_low h (flat_map escaped held) low u))
  | inr high ↦ wide_front n h held (omega arith) high u.0 u.1.0 u.1.1 (λ more short v. utf8_back n more short v)
]

-- and what is spelled by UTF-8 is UTF-8
pub IsUtf8-from_escaped : (held : List ℕ) → IsUtf8 (flat_map escaped held) → IsUtf8 held
IsUtf8-from_escaped held u = utf8_back (length held) held (omega arith) u

-- pairs of digits are ASCII
hex_digit-low : (n : ℕ) → n < 16 → hex_digit n < 128
hex_digit-low n small = grind (arith, nat_tests)

pub IsUtf8-pairs : (held : List ℕ) → All IsByte held → IsUtf8 (flat_map hex_pair held)
IsUtf8-pairs [] may = IsUtf8-nil
IsUtf8-pairs (b ∷ held) may =
    let small : b < 256 = All-head IsByte b held may in
    ascii_front (hex_digit (b / 16)) (hex_digit (b % 16) ∷ flat_map hex_pair held) (hex_digit-low (b / 16) (omega arith))
    (ascii_front (hex_digit (b % 16)) (flat_map hex_pair held) (hex_digit-low (b % 16) (omega arith)) (IsUtf8-pairs held (All-tail IsByte b held may)))

-- the bytes of pairs, the first digit of which may have been read
abbrev pub pairs_behind : Option ℕ → List ℕ → List ℕ
pairs_behind None digits = pairs_of digits
pairs_behind (Some high) digits = behind_digit high digits

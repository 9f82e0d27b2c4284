-- What may begin bytes: its form is told by the first two of them, and nothing else begins there.
use Rattle.std.proofs.Common.{◌≡◌, ◌≢◌, ℕ, suc, ◌<◌, ◌^◌, Bool, true, false, not, ◌&&◌, ◌==◌, pos, negsuc, List, [], ◌∷◌, ◌++◌, length, drop, refl, ap, sym, subst, ◌∙◌, append_assoc, arith, inl, inr, Contains, if◌then◌else◌}
use Rattle.std.proofs.lemmas.Bool.{true≢false, cases_Bool, eqb-true, and_parts, and_left, and_right, not-true}
use Rattle.std.proofs.lemmas.Bool.Decides.{nat_tests}
use Rattle.std.proofs.lemmas.Fmt.{decimal_is_IsNumeral, signed_decimal_injective}
use Rattle.std.proofs.lemmas.List.Elements.{All-nil, All-cons, All-head, All-tail, All-weaker, All-contains}
use Rattle.std.proofs.lemmas.List.Sums.{AllPass-from_list_all}
use Rattle.std.proofs.lemmas.Str.Parse.{digit_from_value}
use Rattle.std.specs.Char.{is_ascii_digit}
use Rattle.std.specs.Fmt.{decimal}
use Rattle.std.specs.Int.{IsInRange}
use Rattle.std.specs.List.{AllPass, flat_map}
use Rattle.std.specs.Str.Parse.{AllDigits}
use Rattle.mk_value.specs.Names.{IsName, is_name_byte, same_bytes}
use Rattle.mk_value.specs.Tokens.{Token, word, number, text, bytes, sign, spelling, escaped, hex_pair}
use Rattle.tokens.specs.Cutting.{Begins, EndsBefore, begins_with, signs}
use Rattle.tokens.specs.Finding.{form_at, is_quote}
use Rattle.tokens.specs.declared.form.Form.{Form}
use Rattle.tokens.specs.declared.form.Form.TheVariants.{Text, Bytes, Negative, Run, Single}
use Rattle.tokens.proofs.Quotes.{same_escaped, same_paired, escaped_opens, pair_opens, spelled_same}
use Rattle.tokens.proofs.Runs.{run, behind, run_is, behind_is}

-- the form of a token
abbrev pub form_of_token : Token → Form
form_of_token (word name) = Run
form_of_token (number (pos n)) = Run
form_of_token (number (negsuc n)) = Negative
form_of_token (text content) = Text
form_of_token (bytes content) = Bytes
form_of_token (sign s) = Single

-- the tests of a form in order
abbrev pub four : Bool → Bool → Bool → Bool → Form
four q x m r = if q then Text else (if x then Bytes else (if m then Negative else (if r then Run else Single)))

four_text : (q x m r : Bool) → q ≡ true → four q x m r ≡ Text
four_text q x m r e = rw e refl

four_bytes : (q x m r : Bool) → q ≡ false → x ≡ true → four q x m r ≡ Bytes
four_bytes q x m r e f = rw (e, f) refl

four_negative : (q x m r : Bool) → q ≡ false → x ≡ false → m ≡ true → four q x m r ≡ Negative
four_negative q x m r e f g = rw (e, f, g) refl

four_run : (q x m r : Bool) → q ≡ false → x ≡ false → m ≡ false → r ≡ true → four q x m r ≡ Run
four_run q x m r e f g h = rw (e, f, g, h) refl

four_single : (q x m r : Bool) → q ≡ false → x ≡ false → m ≡ false → r ≡ false → four q x m r ≡ Single
four_single q x m r e f g h = rw (e, f, g, h) refl

-- what a form says of the tests
pub run_tells : (q x m r : Bool) → four q x m r ≡ Run → x ≡ false
run_tells q false m r e = refl
run_tells true true m r e = cc
run_tells false true m r e = cc

pub text_tells : (q x m r : Bool) → four q x m r ≡ Text → q ≡ true
text_tells true x m r e = refl
text_tells false true m r e = cc
text_tells false false true r e = cc
text_tells false false false true e = cc
text_tells false false false false e = cc

pub bytes_tells : (q x m r : Bool) → four q x m r ≡ Bytes → x ≡ true
bytes_tells true x m r e = cc
bytes_tells false true m r e = refl
bytes_tells false false true r e = cc
bytes_tells false false false true e = cc
bytes_tells false false false false e = cc

pub negative_tells : (q x m r : Bool) → four q x m r ≡ Negative → m ≡ true
negative_tells true x m r e = cc
negative_tells false true m r e = cc
negative_tells false false true r e = refl
negative_tells false false false true e = cc
negative_tells false false false false e = cc

pub single_tells : (q x m r : Bool) → four q x m r ≡ Single → (m ≡ false) × (r ≡ false)
single_tells true x m r e = cc
single_tells false true m r e = cc
single_tells false false true r e = cc
single_tells false false false true e = cc
single_tells false false false false e = (refl, refl)

-- bytes of names and numbers
digit_is_name : (b : ℕ) → is_ascii_digit b ≡ true → is_name_byte b ≡ true
digit_is_name b e = grind (arith, nat_tests)

name_no_quote : (b : ℕ) → is_name_byte b ≡ true → (b == 34) ≡ false
name_no_quote b e = grind (arith, nat_tests)

name_no_minus : (b : ℕ) → is_name_byte b ≡ true → (b == 45) ≡ false
name_no_minus b e = grind (arith, nat_tests)

digit_no_x : (b : ℕ) → is_ascii_digit b ≡ true → (b == 120) ≡ false
digit_no_x b e = grind (arith, nat_tests)

in_range_digit : (b : ℕ) → IsInRange 48 57 b → is_ascii_digit b ≡ true
in_range_digit b r = grind (arith, nat_tests)

AllPass-digits : (ds : List ℕ) → AllDigits 10 ds → AllPass is_ascii_digit ds
AllPass-digits [] h = All-nil (λ x. is_ascii_digit x ≡ true)
AllPass-digits (d ∷ ds) h = All-cons (λ x. is_ascii_digit x ≡ true) d ds (in_range_digit d (digit_from_value d h.0)) (AllPass-digits ds h.1)

AllPass-names : (ds : List ℕ) → AllPass is_ascii_digit ds → AllPass is_name_byte ds
AllPass-names ds h = All-weaker (λ x. is_ascii_digit x ≡ true) (λ x. is_name_byte x ≡ true) digit_is_name ds h

-- the digits of a number, none of them missing
pub decimal_digits : (n : ℕ) → n < 2 ^ 64 → (0 < length (decimal n)) × AllPass is_ascii_digit (decimal n)
decimal_digits n small =
    let is = decimal_is_IsNumeral n small in
    (is.0.0, AllPass-digits (decimal n) is.0.1)

pub decimal_names : (n : ℕ) → n < 2 ^ 64 → AllPass is_name_byte (decimal n)
decimal_names n small = AllPass-names (decimal n) ((decimal_digits n small).1)

-- the forms
run_form : (b : ℕ) (rest : List ℕ) → is_name_byte b ≡ true → ((b == 120) && begins_with is_quote rest) ≡ false → form_at (b ∷ rest) ≡ Run
run_form b rest n x =
    four_run (b == 34) ((b == 120) && begins_with is_quote rest) ((b == 45) && begins_with is_ascii_digit rest) (is_name_byte b)
    (name_no_quote b n) x (and_left (b == 45) (begins_with is_ascii_digit rest) (name_no_minus b n)) n

-- behind the first of a run that is not `x` alone no quote stands
no_quote_behind : (b : ℕ) (front rest : List ℕ) → AllPass is_name_byte (b ∷ front) → (same_bytes (b ∷ front) (120 ∷ []) && begins_with is_quote rest) ≡ false
    → ((b == 120) && begins_with is_quote (front ++ rest)) ≡ false
no_quote_behind b [] rest p e = elim (cases_Bool (b == 120)) [
  | inl x ↦ rw x (rw x at e)
  | inr x ↦ and_left (b == 120) (begins_with is_quote rest) x
]
no_quote_behind b (c ∷ front) rest p e =
    and_right (b == 120) (c == 34) (name_no_quote c (All-head (λ x. is_name_byte x ≡ true) c front (All-tail (λ x. is_name_byte x ≡ true) b (c ∷ front) p)))

word_form : (name rest content : List ℕ) → IsName name → EndsBefore (word name) rest → content ≡ name ++ rest → form_at content ≡ Run
word_form [] rest content n e s = absurd (omega (arith, n.not_empty))
word_form (b ∷ name) rest content n e s =
    ap form_at s ∙ run_form b (name ++ rest) (All-head (λ x. is_name_byte x ≡ true) b name n.characters) (no_quote_behind b name rest n.characters e.1)

digits_form : (ds rest content : List ℕ) → 0 < length ds → AllPass is_ascii_digit ds → content ≡ ds ++ rest → form_at content ≡ Run
digits_form [] rest content some p s = absurd (omega (arith, some))
digits_form (d ∷ ds) rest content some p s =
    let first = All-head (λ x. is_ascii_digit x ≡ true) d ds p in
    ap form_at s ∙ run_form d (ds ++ rest) (digit_is_name d first) (and_left (d == 120) (begins_with is_quote (ds ++ rest)) (digit_no_x d first))

minus_form : (ds rest content : List ℕ) → 0 < length ds → AllPass is_ascii_digit ds → content ≡ 45 ∷ (ds ++ rest) → form_at content ≡ Negative
minus_form [] rest content some p s = absurd (omega (arith, some))
minus_form (d ∷ ds) rest content some p s =
    let first = All-head (λ x. is_ascii_digit x ≡ true) d ds p in
    ap form_at s ∙ four_negative (45 == 34) ((45 == 120) && begins_with is_quote (d ∷ (ds ++ rest))) (is_ascii_digit d) (is_name_byte 45) refl refl first

-- each sign, by its byte
abbrev is_no_other : ℕ → Bool
is_no_other s = not (s == 34) && (not (s == 120) && not (is_name_byte s))

sign_cases : (s : ℕ) → Contains signs s → ((s == 34) ≡ false) × ((s == 120) ≡ false) × (is_name_byte s ≡ false)
sign_cases s held =
    let passes = All-contains (λ x. is_no_other x ≡ true) signs s (AllPass-from_list_all is_no_other signs refl) held in
    let first = and_parts (not (s == 34)) (not (s == 120) && not (is_name_byte s)) passes in
    let others = and_parts (not (s == 120)) (not (is_name_byte s)) first.1 in
    (not-true (s == 34) first.0, not-true (s == 120) others.0, not-true (is_name_byte s) others.1)

sign_form : (s : ℕ) (rest content : List ℕ) → Contains signs s → EndsBefore (sign s) rest → content ≡ s ∷ rest → form_at content ≡ Single
sign_form s rest content held e c =
    let tests = sign_cases s held in
    ap form_at c ∙ four_single (s == 34) ((s == 120) && begins_with is_quote rest) ((s == 45) && begins_with is_ascii_digit rest) (is_name_byte s)
    tests.0 (and_left (s == 120) (begins_with is_quote rest) tests.1) e tests.2

pub form_is : (content : List ℕ) (token : Token) (rest : List ℕ) → Begins content token rest → form_at content ≡ form_of_token token
form_is content (word name) rest b = word_form name rest content b.whole b.ends b.stands
form_is content (number (pos n)) rest b =
    let small : n < 2 ^ 63 = b.whole.sfits in
    let digits = decimal_digits n (omega (arith, small)) in
    digits_form (decimal n) rest content digits.0 digits.1 b.stands
form_is content (number (negsuc n)) rest b =
    let small : n < 2 ^ 63 = b.whole.sfits in
    let digits = decimal_digits (suc n) (omega (arith, small)) in
    minus_form (decimal (suc n)) rest content digits.0 digits.1 b.stands
form_is content (text held) rest b = ap form_at b.stands
form_is content (bytes held) rest b = ap form_at b.stands
form_is content (sign s) rest b = sign_form s rest content b.whole b.ends b.stands

-- what stands where, by the token
pub word_run : (content name rest : List ℕ) → Begins content (word name) rest → (run is_name_byte content ≡ name) × (behind is_name_byte content ≡ rest)
word_run content name rest b = (
  ap (run is_name_byte) b.stands ∙ run_is is_name_byte name rest b.whole.characters b.ends.0,
  ap (behind is_name_byte) b.stands ∙ behind_is is_name_byte name rest b.whole.characters b.ends.0,
)

pub number_run : (content : List ℕ) (n : ℕ) (rest : List ℕ) → Begins content (number (pos n)) rest → (run is_name_byte content ≡ decimal n) × (behind is_name_byte content ≡ rest)
number_run content n rest b =
    let small : n < 2 ^ 63 = b.whole.sfits in
    let names = decimal_names n (omega (arith, small)) in (
      ap (run is_name_byte) b.stands ∙ run_is is_name_byte (decimal n) rest names b.ends,
      ap (behind is_name_byte) b.stands ∙ behind_is is_name_byte (decimal n) rest names b.ends,
    )

pub negative_run : (content : List ℕ) (n : ℕ) (rest : List ℕ) → Begins content (number (negsuc n)) rest → (run is_name_byte (drop 1 content) ≡ decimal (suc n)) × (behind is_name_byte (drop 1 content) ≡ rest)
negative_run content n rest b =
    let small : n < 2 ^ 63 = b.whole.sfits in
    let names = decimal_names (suc n) (omega (arith, small)) in (
      ap (λ c. run is_name_byte (drop 1 c)) b.stands ∙ run_is is_name_byte (decimal (suc n)) rest names b.ends,
      ap (λ c. behind is_name_byte (drop 1 c)) b.stands ∙ behind_is is_name_byte (decimal (suc n)) rest names b.ends,
    )

pub text_tail : (content held rest : List ℕ) → Begins content (text held) rest → drop 1 content ≡ flat_map escaped held ++ (34 ∷ rest)
text_tail content held rest b = ap (drop 1) b.stands ∙ append_assoc (flat_map escaped held) (34 ∷ []) rest

pub bytes_tail : (content held rest : List ℕ) → Begins content (bytes held) rest → drop 2 content ≡ flat_map hex_pair held ++ (34 ∷ rest)
bytes_tail content held rest b = ap (drop 2) b.stands ∙ append_assoc (flat_map hex_pair held) (34 ∷ []) rest

-- a name is no number
pub name_no_number : (n : ℕ) → n < 2 ^ 64 → IsName (decimal n) → ⊥
name_no_number n small name =
    let digits = decimal_digits n small in
    true≢false (sym (digits.1 0 0 digits.0) ∙ name.begins)

-- at most one token begins at a place
pub begins_same : (content : List ℕ) (t u : Token) (r s : List ℕ) → Begins content t r → Begins content u s → (t ≡ u) × (r ≡ s)
begins_same content (word n) (word m) r s b c =
    let one = word_run content n r b in
    let two = word_run content m s c in
    (ap word (sym one.0 ∙ two.0), sym one.1 ∙ two.1)
begins_same content (word n) (number (pos k)) r s b c =
    let one = word_run content n r b in
    let two = number_run content k s c in
    let small : k < 2 ^ 63 = c.whole.sfits in
    absurd (name_no_number k (omega (arith, small)) (subst IsName (sym one.0 ∙ two.0) b.whole))
begins_same content (number (pos k)) (word n) r s b c =
    let one = number_run content k r b in
    let two = word_run content n s c in
    let small : k < 2 ^ 63 = b.whole.sfits in
    absurd (name_no_number k (omega (arith, small)) (subst IsName (sym two.0 ∙ one.0) c.whole))
begins_same content (number (pos j)) (number (pos k)) r s b c =
    let one = number_run content j r b in
    let two = number_run content k s c in
    (ap number (signed_decimal_injective (pos j) (pos k) b.whole.sfits c.whole.sfits (sym one.0 ∙ two.0)), sym one.1 ∙ two.1)
begins_same content (number (negsuc j)) (number (negsuc k)) r s b c =
    let one = negative_run content j r b in
    let two = negative_run content k s c in
    (ap number (signed_decimal_injective (negsuc j) (negsuc k) b.whole.sfits c.whole.sfits (ap (λ ds. 45 ∷ ds) (sym one.0 ∙ two.0))), sym one.1 ∙ two.1)
begins_same content (text held) (text others) r s b c =
    let both = spelled_same escaped (λ x. x ≢ 0) same_escaped escaped_opens held others r s b.whole.no_zero c.whole.no_zero (sym (text_tail content held r b) ∙ text_tail content others s c) in
    (ap text both.0, both.1)
begins_same content (bytes held) (bytes others) r s b c =
    let both = spelled_same hex_pair (λ x. x < 256) same_paired pair_opens held others r s b.whole c.whole (sym (bytes_tail content held r b) ∙ bytes_tail content others s c) in
    (ap bytes both.0, both.1)
begins_same content (sign s) (sign t) r q b c =
    let e : s ∷ r ≡ t ∷ q = sym b.stands ∙ c.stands in
    let first : s ≡ t = cc in
    (ap sign first, cc)
begins_same content (text held) (number (pos k)) r s b c = absurd (let e : form_of_token (text held) ≡ Run = sym (form_is content (text held) r b) ∙ form_is content (number (pos k)) s c in cc)
begins_same content (bytes held) (number (pos k)) r s b c = absurd (let e : form_of_token (bytes held) ≡ Run = sym (form_is content (bytes held) r b) ∙ form_is content (number (pos k)) s c in cc)
begins_same content (sign n) (number (pos k)) r s b c = absurd (let e : form_of_token (sign n) ≡ Run = sym (form_is content (sign n) r b) ∙ form_is content (number (pos k)) s c in cc)
begins_same content t u r s b c = absurd (let e : form_of_token t ≡ form_of_token u = sym (form_is content t r b) ∙ form_is content u s c in cc)

-- neither the end nor a space begins a token
abbrev is_no_space : ℕ → Bool
is_no_space s = not (s == 32)

sign_no_space : (s : ℕ) → Contains signs s → (s == 32) ≡ false
sign_no_space s held = not-true (s == 32) (All-contains (λ x. is_no_space x ≡ true) signs s (AllPass-from_list_all is_no_space signs refl) held)

pub empty_begins_nothing : (t : Token) (r : List ℕ) → Begins [] t r → ⊥
empty_begins_nothing (sign s) r b = let e : [] ≡ s ∷ r = b.stands in cc
empty_begins_nothing (number (pos k)) r b = let e : Single ≡ Run = form_is [] (number (pos k)) r b in cc
empty_begins_nothing t r b = let e : Single ≡ form_of_token t = form_is [] t r b in cc

pub space_begins_nothing : (tail : List ℕ) (t : Token) (r : List ℕ) → Begins (32 ∷ tail) t r → ⊥
space_begins_nothing tail (sign s) r b =
    let e : 32 ∷ tail ≡ s ∷ r = b.stands in
    let f : 32 ≡ s = cc in
    true≢false (ap (λ x. x == 32) f ∙ sign_no_space s b.whole)
space_begins_nothing tail (number (pos k)) r b = let e : Single ≡ Run = form_is (32 ∷ tail) (number (pos k)) r b in cc
space_begins_nothing tail t r b = let e : Single ≡ form_of_token t = form_is (32 ∷ tail) t r b in cc

pub begins_no_space : (content : List ℕ) (t : Token) (r : List ℕ) → Begins content t r → begins_with (λ b. b == 32) content ≡ false
begins_no_space [] t r b = refl
begins_no_space (a ∷ tail) t r b = elim (cases_Bool (a == 32)) [
  | inl e ↦ absurd (space_begins_nothing tail t r (subst (λ x. Begins (x ∷ tail) t r) (eqb-true a 32 e) b))
  | inr e ↦ e
]

-- a token has a byte
pub spelling_some : (content : List ℕ) (t : Token) (r : List ℕ) → Begins content t r → 0 < length (spelling t)
spelling_some content (word name) r b = b.whole.not_empty
spelling_some content (number (pos n)) r b =
    let small : n < 2 ^ 63 = b.whole.sfits in
    (decimal_digits n (omega (arith, small))).0
spelling_some content (number (negsuc n)) r b = omega arith
spelling_some content (text held) r b = omega arith
spelling_some content (bytes held) r b = omega arith
spelling_some content (sign s) r b = omega arith

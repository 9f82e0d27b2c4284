-- What the readers of one token find, by the form.
use Rattle.std.proofs.Common.{◌≡◌, ℕ, ◌+◌, ◌≤◌, true, false, ◌&&◌, ◌==◌, nat_eq, ℤ, pos, negsuc, List, [], ◌∷◌, ◌++◌, length, take, drop, refl, ap, sym, subst, ◌∙◌, append_assoc, arith, inl, inr, FitsSigned, Contains, one-add, Some, None}
use Rattle.std.proofs.lemmas.Bool.{false≢true, cases_Bool, eqb-true, and_parts, and_from, eq-eqb}
use Rattle.std.proofs.lemmas.List.{take-append-drop, drop-drop}
use Rattle.std.specs.Char.{is_ascii_digit}
use Rattle.std.specs.Fmt.{signed_decimal}
use Rattle.std.specs.Int.{w64}
use Rattle.std.specs.Cmp.Lexicographic.{pointwise}
use Rattle.std.specs.List.{All, flat_map, prefix_len, slice_get}
use Rattle.std.specs.Str.{IsUtf8}
use Rattle.mk_value.specs.Names.{IsName, is_name_byte, same_bytes}
use Rattle.mk_value.specs.Tokens.{Token, word, number, text, bytes, sign, escaped, hex_pair}
use Rattle.tokens.specs.Cutting.{Begins, begins_with, signs}
use Rattle.tokens.specs.Finding.{form_at, is_quote, IsByte, IsTextByte}
use Rattle.tokens.specs.Meanings.{byte_of}
use Rattle.tokens.specs.declared.form.Form.TheVariants.{Text, Bytes, Negative, Run, Single}
use Rattle.tokens.specs.declared.token.Sign.{Sign}
use Rattle.tokens.specs.declared.token.Sign.TheVariants.{OpenParenthesis, CloseParenthesis, OpenBrace, CloseBrace, Comma, Slash, Colon, Equals, Minus}
use Rattle.tokens.proofs.Quotes.{same_escaped, escaped_opens, spelled_same}
use Rattle.tokens.proofs.Runs.{run, behind, behind_ends}
use Rattle.tokens.proofs.Beginnings.{form_of_token, form_is, run_tells, text_tells, bytes_tells, negative_tells, single_tells, word_run, number_run, negative_run, text_tail, bytes_tail}

abbrev pub Nothing : List ℕ → Type 0
Nothing content = (token : Token) → (rest : List ℕ) → Begins content token rest → ⊥

-- the bytes by their form
pub text_opens : (content : List ℕ) → form_at content ≡ Text → content ≡ 34 ∷ drop 1 content
text_opens [] e = cc
text_opens (b ∷ rest) e =
    let q = eqb-true b 34 (text_tells (b == 34) ((b == 120) && begins_with is_quote rest) ((b == 45) && begins_with is_ascii_digit rest) (is_name_byte b) e) in
    ap (λ x. x ∷ rest) q

pub negative_opens : (content : List ℕ) → form_at content ≡ Negative → content ≡ 45 ∷ drop 1 content
negative_opens [] e = cc
negative_opens (b ∷ rest) e =
    let m = and_parts (b == 45) (begins_with is_ascii_digit rest)
    (negative_tells (b == 34) ((b == 120) && begins_with is_quote rest) ((b == 45) && begins_with is_ascii_digit rest) (is_name_byte b) e) in
    ap (λ x. x ∷ rest) (eqb-true b 45 m.0)

pub bytes_opens : (content : List ℕ) → form_at content ≡ Bytes → content ≡ 120 ∷ 34 ∷ drop 2 content
bytes_opens [] e = cc
bytes_opens (b ∷ []) e =
    let x = and_parts (b == 120) false (bytes_tells (b == 34) ((b == 120) && false) ((b == 45) && false) (is_name_byte b) e) in
    absurd (false≢true x.1)
bytes_opens (b ∷ c ∷ rest) e =
    let x = and_parts (b == 120) (c == 34) (bytes_tells (b == 34) ((b == 120) && (c == 34)) ((b == 45) && is_ascii_digit c) (is_name_byte b) e) in
    ap (λ y. y ∷ c ∷ rest) (eqb-true b 120 x.0) ∙ ap (λ y. 120 ∷ y ∷ rest) (eqb-true c 34 x.1)

-- a word `x` does not stand before a quote in a run
no_quote : (content name rest : List ℕ) → form_at content ≡ Run → content ≡ name ++ rest → (same_bytes name (120 ∷ []) && begins_with is_quote rest) ≡ false
no_quote content [] rest e s = refl
no_quote content (b ∷ []) rest e s =
    let x = run_tells (b == 34) ((b == 120) && begins_with is_quote rest) ((b == 45) && begins_with is_ascii_digit rest) (is_name_byte b) (ap form_at (sym s) ∙ e) in
    elim (cases_Bool (b == 120)) [
      | inl y ↦ rw y (rw y at x)
      | inr n ↦ rw n refl
    ]
no_quote content (b ∷ c ∷ name) rest e s = elim (cases_Bool (b == 120)) [
  | inl y ↦ rw y refl
  | inr n ↦ rw n refl
]

module _ (content : List ℕ) (n : ℕ) (is : n ≡ prefix_len is_name_byte content) (form : form_at content ≡ Run) where
  pub run_word : (name : List ℕ) → IsName name → name ≡ take n content → Begins content (word name) (drop n content)
  run_word name named e =
      let split : content ≡ name ++ drop n content = sym (take-append-drop n content) ∙ ap (λ x. x ++ drop n content) (sym e) in
      record {
        whole = named;
        stands = split;
        ends = (ap (λ k. begins_with is_name_byte (drop k content)) is ∙ behind_ends is_name_byte content, no_quote content name (drop n content) form split);
      }

  pub run_number : (z : ℤ) → FitsSigned w64 z → take n content ≡ signed_decimal z → Begins content (number z) (drop n content)
  run_number z fits e = record {
    whole = fits;
    stands = sym (take-append-drop n content) ∙ ap (λ x. x ++ drop n content) e;
    ends = ap (λ k. begins_with is_name_byte (drop k content)) is ∙ behind_ends is_name_byte content;
  }

  pub run_nothing : (IsName (take n content) → ⊥) → ((z : ℤ) → FitsSigned w64 z → take n content ≡ signed_decimal z → ⊥) → Nothing content
  run_nothing no_name no_number (word name) rest b =
      no_name (subst IsName (sym (ap (λ k. take k content) is ∙ (word_run content name rest b).0)) b.whole)
  run_nothing no_name no_number (number (pos k)) rest b =
      no_number (pos k) b.whole (ap (λ k. take k content) is ∙ (number_run content k rest b).0)
  run_nothing no_name no_number token rest b = let e : Run ≡ form_of_token token = sym form ∙ form_is content token rest b in cc

module _ (content : List ℕ) (n : ℕ) (is : n ≡ prefix_len is_name_byte (drop 1 content)) (form : form_at content ≡ Negative) where
  minus_take : take (1 + n) content ≡ 45 ∷ run is_name_byte (drop 1 content)
  minus_take = ap (take (1 + n)) (negative_opens content form) ∙ ap (λ k. take k (45 ∷ drop 1 content)) (one-add n) ∙ ap (λ k. 45 ∷ take k (drop 1 content)) is

  minus_drop : drop (1 + n) content ≡ behind is_name_byte (drop 1 content)
  minus_drop = ap (drop (1 + n)) (negative_opens content form) ∙ ap (λ k. drop k (45 ∷ drop 1 content)) (one-add n) ∙ ap (λ k. drop k (drop 1 content)) is

  pub negative_number : (z : ℤ) → FitsSigned w64 z → take (1 + n) content ≡ signed_decimal z → Begins content (number z) (drop (1 + n) content)
  negative_number z fits e = record {
    whole = fits;
    stands = sym (take-append-drop (1 + n) content) ∙ ap (λ x. x ++ drop (1 + n) content) e;
    ends = ap (begins_with is_name_byte) minus_drop ∙ behind_ends is_name_byte (drop 1 content);
  }

  pub negative_nothing : ((z : ℤ) → FitsSigned w64 z → take (1 + n) content ≡ signed_decimal z → ⊥) → Nothing content
  negative_nothing no_number (number (negsuc k)) rest b =
      no_number (negsuc k) b.whole (minus_take ∙ ap (λ ds. 45 ∷ ds) ((negative_run content k rest b).0))
  negative_nothing no_number token rest b = let e : Negative ≡ form_of_token token = sym form ∙ form_is content token rest b in cc

module _ (content : List ℕ) (form : form_at content ≡ Text) where
  pub text_found : (held : List ℕ) (n : ℕ) → n ≤ length (drop 1 content) → IsUtf8 held → All IsTextByte held → drop 1 content ≡ flat_map escaped held ++ (34 ∷ drop n (drop 1 content))
      → (n + 1 ≤ length content) × Begins content (text held) (drop (n + 1) content)
  text_found held n within utf8 may e =
      let opens = text_opens content form in
      let further : drop n (drop 1 content) ≡ drop (n + 1) content = drop-drop n 1 content ∙ ap (λ k. drop k content) (let f : 1 + n ≡ n + 1 = omega arith in f) in (
        (let long = ap length opens in omega (arith, long, within)),
        record {
          whole = record { utf8 = utf8; no_zero = may };
          stands = opens ∙ ap (λ x. 34 ∷ x) (e ∙ ap (λ x. flat_map escaped held ++ (34 ∷ x)) further ∙ sym (append_assoc (flat_map escaped held) (34 ∷ []) (drop (n + 1) content)));
          ends = tt;
        },
      )

  pub text_nothing : ((held rest : List ℕ) → All IsTextByte held → drop 1 content ≡ flat_map escaped held ++ (34 ∷ rest) → ⊥) → Nothing content
  text_nothing none (text held) rest b = none held rest b.whole.no_zero (text_tail content held rest b)
  text_nothing none (number (pos k)) rest b = let e : Text ≡ form_of_token (number (pos k)) = sym form ∙ form_is content (number (pos k)) rest b in cc
  text_nothing none token rest b = let e : Text ≡ form_of_token token = sym form ∙ form_is content token rest b in cc

  pub text_not_utf8 : (held rest : List ℕ) → All IsTextByte held → drop 1 content ≡ flat_map escaped held ++ (34 ∷ rest) → (IsUtf8 held → ⊥) → Nothing content
  text_not_utf8 held further may e bad (text others) rest b =
      let both = spelled_same escaped IsTextByte same_escaped escaped_opens held others further rest may b.whole.no_zero (sym e ∙ text_tail content others rest b) in
      bad (subst IsUtf8 (sym both.0) b.whole.utf8)
  text_not_utf8 held further may e bad (number (pos k)) rest b = let f : Text ≡ form_of_token (number (pos k)) = sym form ∙ form_is content (number (pos k)) rest b in cc
  text_not_utf8 held further may e bad token rest b = let f : Text ≡ form_of_token token = sym form ∙ form_is content token rest b in cc

module _ (content : List ℕ) (form : form_at content ≡ Bytes) where
  pub bytes_found : (held : List ℕ) (n : ℕ) → n ≤ length (drop 2 content) → All IsByte held → drop 2 content ≡ flat_map hex_pair held ++ (34 ∷ drop n (drop 2 content))
      → (n + 2 ≤ length content) × Begins content (bytes held) (drop (n + 2) content)
  bytes_found held n within may e =
      let opens = bytes_opens content form in
      let further : drop n (drop 2 content) ≡ drop (n + 2) content = drop-drop n 2 content ∙ ap (λ k. drop k content) (let f : 2 + n ≡ n + 2 = omega arith in f) in (
        (let long = ap length opens in omega (arith, long, within)),
        record {
          whole = may;
          stands = opens ∙ ap (λ x. 120 ∷ 34 ∷ x) (e ∙ ap (λ x. flat_map hex_pair held ++ (34 ∷ x)) further ∙ sym (append_assoc (flat_map hex_pair held) (34 ∷ []) (drop (n + 2) content)));
          ends = tt;
        },
      )

  pub bytes_nothing : ((held rest : List ℕ) → All IsByte held → drop 2 content ≡ flat_map hex_pair held ++ (34 ∷ rest) → ⊥) → Nothing content
  bytes_nothing none (bytes held) rest b = none held rest b.whole (bytes_tail content held rest b)
  bytes_nothing none (number (pos k)) rest b = let e : Bytes ≡ form_of_token (number (pos k)) = sym form ∙ form_is content (number (pos k)) rest b in cc
  bytes_nothing none token rest b = let e : Bytes ≡ form_of_token token = sym form ∙ form_is content token rest b in cc

-- signs
pub single_nothing_empty : (content : List ℕ) → form_at content ≡ Single → length content ≤ 0 → Nothing content
single_nothing_empty content form short (sign s) rest b = omega (arith, short, ap length b.stands)
single_nothing_empty content form short (number (pos k)) rest b = let e : Single ≡ form_of_token (number (pos k)) = sym form ∙ form_is content (number (pos k)) rest b in cc
single_nothing_empty content form short token rest b = let e : Single ≡ form_of_token token = sym form ∙ form_is content token rest b in cc

module _ (s : ℕ) (tail : List ℕ) (form : form_at (s ∷ tail) ≡ Single) where
  pub sign_found : Contains signs s → Begins (s ∷ tail) (sign s) tail
  sign_found held = record {
    whole = held;
    stands = refl;
    ends = (single_tells (s == 34) ((s == 120) && begins_with is_quote tail) ((s == 45) && begins_with is_ascii_digit tail) (is_name_byte s) form).0;
  }

  pub sign_nothing : (Contains signs s → ⊥) → Nothing (s ∷ tail)
  sign_nothing none (sign t) rest b = none (subst (Contains signs) (let e : s ∷ tail ≡ t ∷ rest = b.stands in let f : t ≡ s = cc in f) b.whole)
  sign_nothing none (number (pos k)) rest b = let e : Single ≡ form_of_token (number (pos k)) = sym form ∙ form_is (s ∷ tail) (number (pos k)) rest b in cc
  sign_nothing none token rest b = let e : Single ≡ form_of_token token = sym form ∙ form_is (s ∷ tail) token rest b in cc

-- the first of the bytes
none_some : {X : Type 0} (x : X) → None ≡ Some x → ⊥
none_some x e = cc

pub no_first : (content : List ℕ) → None ≡ slice_get content 0 → length content ≤ 0
no_first [] e = omega arith
no_first (b ∷ rest) e = absurd (none_some b e)

pub first_is : (content : List ℕ) (b : ℕ) → Some b ≡ slice_get content 0 → content ≡ b ∷ drop 1 content
first_is [] b e = cc
first_is (a ∷ rest) b e = ap (λ x. x ∷ rest) (let f : Some b ≡ Some a = e in let g : a ≡ b = cc in g)

pub sign_held : (s : Sign) → Contains signs (byte_of s)
sign_held OpenParenthesis = (0, omega arith, refl)
sign_held CloseParenthesis = (1, omega arith, refl)
sign_held Comma = (2, omega arith, refl)
sign_held Minus = (3, omega arith, refl)
sign_held Slash = (4, omega arith, refl)
sign_held Colon = (5, omega arith, refl)
sign_held Equals = (6, omega arith, refl)
sign_held OpenBrace = (7, omega arith, refl)
sign_held CloseBrace = (8, omega arith, refl)

pub sign_found_first : (content : List ℕ) (b : ℕ) (s : Sign) → form_at content ≡ Single → Some b ≡ slice_get content 0 → byte_of s ≡ b → (1 ≤ length content) × Begins content (sign (byte_of s)) (drop 1 content)
sign_found_first content b s form e is =
    let opens = first_is content b e in
    let P : List ℕ → Type 0 = λ c. Begins c (sign (byte_of s)) (drop 1 content) in
    let Q : List ℕ → Type 0 = λ c. form_at c ≡ Single in
    let long = ap length opens in (
      omega (arith, long),
      subst P (ap (λ x. x ∷ drop 1 content) is ∙ sym opens)
          (sign_found (byte_of s) (drop 1 content) (subst Q (opens ∙ ap (λ x. x ∷ drop 1 content) (sym is)) form) (sign_held s)),
    )

pub sign_nothing_first : (content : List ℕ) (b : ℕ) → form_at content ≡ Single → Some b ≡ slice_get content 0 → (Contains signs b → ⊥) → Nothing content
sign_nothing_first content b form e none =
    let opens = first_is content b e in
    let Q : List ℕ → Type 0 = λ c. form_at c ≡ Single in
    subst Nothing (sym opens) (sign_nothing b (drop 1 content) (subst Q opens form) none)

-- two texts of the same bytes are found to be the same
pub pointwise_same : (xs ys : List ℕ) → xs ≡ ys → pointwise nat_eq xs ys ≡ true
pointwise_same xs ys e = ap (pointwise nat_eq xs) (sym e) ∙ itself xs
  where
    itself : (xs : List ℕ) → pointwise nat_eq xs xs ≡ true
    itself [] = refl
    itself (x ∷ xs) = and_from (nat_eq x x) (pointwise nat_eq xs xs) (eq-eqb x x refl) (itself xs)

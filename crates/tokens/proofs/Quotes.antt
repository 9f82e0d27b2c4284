-- What stands in quotes: each byte of it is spelled so that its spelling tells the byte and where it ends.
use Rattle.std.proofs.Common.{◌≡◌, ◌≢◌, ℕ, ◌+◌, ◌-◌, ◌*◌, ◌/◌, ◌%◌, ◌<◌, ◌≤◌, ◌==◌, nat_lt, if◌then◌else◌, true, false, List, [], ◌∷◌, ◌++◌, length, take, drop, append-nil, Option, Some, None, refl, ap, sym, ◌∙◌, append_assoc, arith, inl, inr}
use Rattle.std.proofs.lemmas.Bool.{cases_eq, eqb-true, ne_eqb, true≢false, false≢true}
use Rattle.std.proofs.lemmas.Bool.Decides.{nat_tests}
use Rattle.std.proofs.lemmas.List.{append_cancel_right, drop-drop, length-drop, length-take-le, take-append-drop}
use Rattle.std.proofs.lemmas.Grind.{flat_map-append}
use Rattle.std.proofs.lemmas.List.Elements.{All-head, All-nil, All-push, All-tail}
use Rattle.std.proofs.Math.Seq.{take-append-add}
use Rattle.std.specs.List.{All, flat_map}
use Rattle.mk_value.specs.Tokens.{escaped, hex_digit, hex_pair}
use Rattle.tokens.specs.Cutting.{begins_with}
use Rattle.tokens.specs.Finding.{FindsByte, FindsQuoted, IsByte, IsTextByte, is_quote}

-- the byte that a front spells, and what stands behind it
abbrev behind_backslash : List ℕ → Option (ℕ × List ℕ)
behind_backslash [] = None
behind_backslash (b ∷ rest) = Some ((if b == 110 then 10 else b), rest)

abbrev unescaped : List ℕ → Option (ℕ × List ℕ)
unescaped [] = None
unescaped (b ∷ rest) = if b == 92 then behind_backslash rest else Some (b, rest)

abbrev digit_from : ℕ → ℕ
digit_from b = if nat_lt b 58 then b - 48 else b - 87

abbrev unpaired : List ℕ → Option (ℕ × List ℕ)
unpaired [] = None
unpaired (a ∷ []) = None
unpaired (a ∷ b ∷ rest) = Some (16 * digit_from a + digit_from b, rest)

escaped_plain : (b : ℕ) → b ≢ 34 → b ≢ 92 → b ≢ 10 → escaped b ≡ b ∷ []
escaped_plain b q s n = grind (arith, nat_tests)

unescaped-plain : (b : ℕ) (x : List ℕ) → b ≢ 92 → unescaped (b ∷ x) ≡ Some (b, x)
unescaped-plain b x n = rw (ne_eqb b 92 n) refl

unescaped-escaped : (b : ℕ) (x : List ℕ) → unescaped (escaped b ++ x) ≡ Some (b, x)
unescaped-escaped b x = elim (cases_eq b 34) [
  | inl q ↦ rw q refl
  | inr q ↦ elim (cases_eq b 92) [
    | inl s ↦ rw s refl
    | inr s ↦ elim (cases_eq b 10) [
      | inl n ↦ rw n refl
      | inr n ↦ ap (λ e. unescaped (e ++ x)) (escaped_plain b q s n) ∙ unescaped-plain b x s
    ]
  ]
]

digit_from-hex : (n : ℕ) → n < 16 → digit_from (hex_digit n) ≡ n
digit_from-hex n small = grind (arith, nat_tests)

unpaired-hex : (b : ℕ) (x : List ℕ) → b < 256 → unpaired (hex_pair b ++ x) ≡ Some (b, x)
unpaired-hex b x small =
    let high : digit_from (hex_digit (b / 16)) ≡ b / 16 = digit_from-hex (b / 16) (omega arith) in
    let low : digit_from (hex_digit (b % 16)) ≡ b % 16 = digit_from-hex (b % 16) (omega arith) in
    let whole : 16 * digit_from (hex_digit (b / 16)) + digit_from (hex_digit (b % 16)) ≡ b = omega (arith, high, low) in
    ap (λ n. Some (n, x)) whole

abbrev byte_part : Option (ℕ × List ℕ) → ℕ
byte_part None = 0
byte_part (Some p) = p.0

abbrev rest_part : Option (ℕ × List ℕ) → List ℕ
rest_part None = []
rest_part (Some p) = p.1

pub same_escaped : (b c : ℕ) (x y : List ℕ) → IsTextByte b → IsTextByte c → escaped b ++ x ≡ escaped c ++ y → (b ≡ c) × (x ≡ y)
same_escaped b c x y _ _ e =
    let both : Some (b, x) ≡ Some (c, y) = sym (unescaped-escaped b x) ∙ ap unescaped e ∙ unescaped-escaped c y in
    (ap byte_part both, ap rest_part both)

pub same_paired : (b c : ℕ) (x y : List ℕ) → IsByte b → IsByte c → hex_pair b ++ x ≡ hex_pair c ++ y → (b ≡ c) × (x ≡ y)
same_paired b c x y p q e =
    let both : Some (b, x) ≡ Some (c, y) = sym (unpaired-hex b x p) ∙ ap unpaired e ∙ unpaired-hex c y q in
    (ap byte_part both, ap rest_part both)

-- no spelling begins with a quote
pub escaped_opens : (b : ℕ) (x y : List ℕ) → IsTextByte b → escaped b ++ x ≡ 34 ∷ y → ⊥
escaped_opens b x y _ e = elim (cases_eq b 34) [
  | inl q ↦ let f : 92 ∷ 34 ∷ x ≡ 34 ∷ y = ap (λ n. escaped n ++ x) (sym q) ∙ e in cc
  | inr q ↦ elim (cases_eq b 92) [
    | inl s ↦ let f : 92 ∷ 92 ∷ x ≡ 34 ∷ y = ap (λ n. escaped n ++ x) (sym s) ∙ e in cc
    | inr s ↦ elim (cases_eq b 10) [
      | inl n ↦ let f : 92 ∷ 110 ∷ x ≡ 34 ∷ y = ap (λ n. escaped n ++ x) (sym n) ∙ e in cc
      | inr n ↦ let f : b ∷ x ≡ 34 ∷ y = ap (λ s. s ++ x) (sym (escaped_plain b q s n)) ∙ e in q cc
    ]
  ]
]

hex_digit-low : (n : ℕ) → 48 ≤ hex_digit n
hex_digit-low n = grind (arith, nat_tests)

pub pair_opens : (b : ℕ) (x y : List ℕ) → IsByte b → hex_pair b ++ x ≡ 34 ∷ y → ⊥
pair_opens b x y _ e =
    let f : hex_digit (b / 16) ≡ 34 = cc in
    omega (arith, hex_digit-low (b / 16), f)

pub quote_first : (rest : List ℕ) → begins_with is_quote rest ≡ true → rest ≡ 34 ∷ drop 1 rest
quote_first [] e = absurd (false≢true e)
quote_first (b ∷ rest) e = ap (λ x. x ∷ rest) (eqb-true b 34 e)

-- of bytes that are spelled behind one another up to a quote
module _ (spelled : ℕ → List ℕ) (May : ℕ → Type 0)
    (same : (b c : ℕ) (x y : List ℕ) → May b → May c → spelled b ++ x ≡ spelled c ++ y → (b ≡ c) × (x ≡ y))
    (opens : (b : ℕ) (x y : List ℕ) → May b → spelled b ++ x ≡ 34 ∷ y → ⊥) where
  -- what is spelled at a front is the front of what is spelled there up to a quote
  pub spelled_front : (held others rest behind : List ℕ) → All May held → All May others → flat_map spelled held ++ rest ≡ flat_map spelled others ++ (34 ∷ behind)
      → (more : List ℕ) × All May more × (others ≡ held ++ more) × (rest ≡ flat_map spelled more ++ (34 ∷ behind))
  spelled_front [] others rest behind p q e = (others, q, refl, e)
  spelled_front (b ∷ held) [] rest behind p q e =
      absurd (opens b (flat_map spelled held ++ rest) behind (All-head May b held p) (sym (append_assoc (spelled b) (flat_map spelled held) rest) ∙ e))
  spelled_front (b ∷ held) (c ∷ others) rest behind p q e =
      let f : spelled b ++ (flat_map spelled held ++ rest) ≡ spelled c ++ (flat_map spelled others ++ (34 ∷ behind)) =
      sym (append_assoc (spelled b) (flat_map spelled held) rest) ∙ e ∙ append_assoc (spelled c) (flat_map spelled others) (34 ∷ behind) in
      let first = same b c _ _ (All-head May b held p) (All-head May c others q) f in
      let others_are = spelled_front held others rest behind (All-tail May b held p) (All-tail May c others q) first.1 in
      let whole : c ∷ others ≡ b ∷ (held ++ others_are.0) = cc in
      (others_are.0, others_are.1, whole, others_are.3)

  -- two texts up to a quote at one place are one
  pub spelled_same : (held others rest behind : List ℕ) → All May held → All May others → flat_map spelled held ++ (34 ∷ rest) ≡ flat_map spelled others ++ (34 ∷ behind)
      → (held ≡ others) × (rest ≡ behind)
  spelled_same [] [] rest behind p q e = (refl, cc)
  spelled_same [] (c ∷ others) rest behind p q e =
      absurd (opens c (flat_map spelled others ++ (34 ∷ behind)) rest (All-head May c others q) (sym (append_assoc (spelled c) (flat_map spelled others) (34 ∷ behind)) ∙ sym e))
  spelled_same (b ∷ held) [] rest behind p q e =
      absurd (opens b (flat_map spelled held ++ (34 ∷ rest)) behind (All-head May b held p) (sym (append_assoc (spelled b) (flat_map spelled held) (34 ∷ rest)) ∙ e))
  spelled_same (b ∷ held) (c ∷ others) rest behind p q e =
      let f : spelled b ++ (flat_map spelled held ++ (34 ∷ rest)) ≡ spelled c ++ (flat_map spelled others ++ (34 ∷ behind)) =
      sym (append_assoc (spelled b) (flat_map spelled held) (34 ∷ rest)) ∙ e ∙ append_assoc (spelled c) (flat_map spelled others) (34 ∷ behind) in
      let first = same b c _ _ (All-head May b held p) (All-head May c others q) f in
      let others_are = spelled_same held others rest behind (All-tail May b held p) (All-tail May c others q) first.1 in
      (cc, others_are.1)

-- the bytes up to a place spell bytes, each of which may stand there
pub record SpelledTo (spelled : ℕ → List ℕ) (May : ℕ → Type 0) (content : List ℕ) (at : ℕ) : Type 0 where
  pub within : at ≤ length content
  pub held : List ℕ
  pub may : All May held
  pub front : take at content ≡ flat_map spelled held

module _ (spelled : ℕ → List ℕ) (May : ℕ → Type 0) where
  read_so_far : (content : List ℕ) (at : ℕ) → (s : SpelledTo spelled May content at) → content ≡ flat_map spelled s.held ++ drop at content
  read_so_far content at s = sym (take-append-drop at content) ∙ ap (λ x. x ++ drop at content) s.front

  pub spelled_none : (content : List ℕ) → SpelledTo spelled May content 0
  spelled_none content = record { within = omega arith; held = []; may = All-nil May; front = refl }

  pub spelled_more : (content : List ℕ) (at : ℕ) → (s : SpelledTo spelled May content at) → (b len : ℕ) → FindsByte spelled May (drop at content) (Some (b, len)) → SpelledTo spelled May content (at + len)
  spelled_more content at s b len found =
      let left = length-drop at content in
      let small : len ≤ length content - at = omega (arith, found.1, left) in
      let next : take len (drop at content) ≡ spelled b =
      append_cancel_right (take len (drop at content)) (spelled b) (drop len (drop at content)) (take-append-drop len (drop at content) ∙ found.3) in
      let parts : take (at + len) content ≡ take at content ++ take len (drop at content) =
      ap (take (at + len)) (sym (take-append-drop at content)) ∙ ap (λ n. take (n + len) (take at content ++ drop at content)) (sym (length-take-le at content s.within))
      ∙ take-append-add (take at content) (drop at content) len in
      record {
        within = omega (arith, small, s.within);
        held = s.held ++ b ∷ [];
        may = All-push May s.held b s.may found.2;
        front = parts ∙ ap (λ x. x ++ take len (drop at content)) s.front ∙ ap (λ x. flat_map spelled s.held ++ x) (next ∙ sym (append-nil (spelled b)))
            ∙ sym (flat_map-append spelled s.held (b ∷ []));
      }

  -- a quote behind what was spelled ends it
  pub quoted_found : (content : List ℕ) (at : ℕ) → SpelledTo spelled May content at → begins_with is_quote (drop at content) ≡ true → FindsQuoted spelled May content (Some (at + 1))
  quoted_found content at s q =
      let opens : drop at content ≡ 34 ∷ drop 1 (drop at content) = quote_first (drop at content) q in
      let further : drop 1 (drop at content) ≡ drop (at + 1) content = drop-drop 1 at content in
      let long = ap length opens in
      let left = length-drop at content in
      let same : at + 1 - 1 ≡ at = omega arith in
      (s.held, omega (arith, long, left), s.may, read_so_far content at s ∙ ap (λ x. flat_map spelled s.held ++ x) (opens ∙ ap (λ x. 34 ∷ x) further), omega arith, ap (λ n. take n content) same ∙ s.front)

module _ (spelled : ℕ → List ℕ) (May : ℕ → Type 0)
    (same : (b c : ℕ) (x y : List ℕ) → May b → May c → spelled b ++ x ≡ spelled c ++ y → (b ≡ c) × (x ≡ y))
    (opens : (b : ℕ) (x y : List ℕ) → May b → spelled b ++ x ≡ 34 ∷ y → ⊥) where
  -- where neither a quote nor another byte's spelling stands behind what was spelled, no quote ends it
  pub quoted_nothing : (content : List ℕ) (at : ℕ) → SpelledTo spelled May content at
      → ((b : ℕ) → (rest : List ℕ) → May b → drop at content ≡ spelled b ++ rest → ⊥) → begins_with is_quote (drop at content) ≡ false
      → (others behind : List ℕ) → All May others → content ≡ flat_map spelled others ++ (34 ∷ behind) → ⊥
  quoted_nothing content at s stuck q others behind may_others f =
      let front = spelled_front spelled May same opens s.held others (drop at content) behind s.may may_others (sym (read_so_far spelled May content at s) ∙ f) in
      ends_not (drop at content) behind front.0 front.1 front.3 stuck q
    where
      ends_not : (tail behind more : List ℕ) → All May more → tail ≡ flat_map spelled more ++ (34 ∷ behind)
          → ((b : ℕ) → (rest : List ℕ) → May b → tail ≡ spelled b ++ rest → ⊥) → begins_with is_quote tail ≡ false → ⊥
      ends_not tail behind [] may e stuck q = true≢false (sym (ap (begins_with is_quote) e) ∙ q)
      ends_not tail behind (b ∷ more) may e stuck q = stuck b (flat_map spelled more ++ (34 ∷ behind)) (All-head May b more may) (e ∙ append_assoc (spelled b) (flat_map spelled more) (34 ∷ behind))

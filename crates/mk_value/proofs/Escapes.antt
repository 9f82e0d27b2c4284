-- What stands for the characters of a text inside quotes.
use Rattle.std.proofs.Common.{◌≡◌, ◌≢◌, ℕ, ◌<◌, ◌≤◌, List, [], ◌∷◌, ◌++◌, length, refl, ap, sym, ◌∙◌, append_assoc, arith, inl, inr, get_or, suc, append-nil}
use Rattle.std.proofs.lemmas.Bool.{cases_lt}
use Rattle.std.proofs.lemmas.Str.{encode_ascii, inside_one}
use Rattle.std.specs.List.{flat_map}
use Rattle.std.specs.Char.{encode_utf8}
use Rattle.std.proofs.lemmas.Bool.Decides.{nat_tests}
use Rattle.mk_value.specs.Tokens.{escaped}

pub escaped-append : (xs ys : List ℕ) → flat_map escaped (xs ++ ys) ≡ flat_map escaped xs ++ flat_map escaped ys
escaped-append [] ys = refl
escaped-append (x ∷ xs) ys = ap (λ zs. escaped x ++ zs) (escaped-append xs ys) ∙ sym (append_assoc (escaped x) (flat_map escaped xs) (flat_map escaped ys))

-- any other byte stands for itself
pub escaped_plain : (b : ℕ) → b ≢ 34 → b ≢ 92 → b ≢ 10 → escaped b ≡ b ∷ []
escaped_plain b q s n = grind (arith, nat_tests)

pub escaped_high : (b : ℕ) → 128 ≤ b → escaped b ≡ b ∷ []
escaped_high b h = escaped_plain b (omega arith) (omega arith) (omega arith)

high_bytes : (bs : List ℕ) → ((k : ℕ) → k < length bs → 128 ≤ get_or bs k 0) → flat_map escaped bs ≡ bs
high_bytes [] high = refl
high_bytes (b ∷ rest) high =
    let first : 128 ≤ b = high 0 (omega arith) in
    ap (λ xs. xs ++ flat_map escaped rest) (escaped_high b first) ∙ ap (λ xs. b ∷ xs) (high_bytes rest (λ k p. high (suc k) (omega arith)))

-- any other character stands for itself
pub escaped_character : (c : ℕ) → c ≢ 34 → c ≢ 92 → c ≢ 10 → flat_map escaped (encode_utf8 c) ≡ encode_utf8 c
escaped_character c q s n = elim (cases_lt c 128) [
  | inl small ↦ rw (encode_ascii c small) (ap (λ xs. xs ++ []) (escaped_plain c q s n))
  | inr wide ↦ high_bytes (encode_utf8 c) (λ k p. elim (cases_lt (get_or (encode_utf8 c) k 0) 128) [
    | inl low ↦ absurd (omega (arith, inside_one c [] (encode_utf8 c) k (sym (append-nil _)) p low))
    | inr high ↦ high
  ])
]

pub escaped_parts : (text front character rest : List ℕ) → text ≡ front ++ (character ++ rest) → flat_map escaped front ++ (flat_map escaped character ++ flat_map escaped rest) ≡ flat_map escaped text
escaped_parts text front character rest e =
    sym (ap (flat_map escaped) e ∙ escaped-append front (character ++ rest) ∙ ap (λ xs. flat_map escaped front ++ xs) (escaped-append character rest))

-- Whether a token is one that a text may hold, as a test.
use Rattle.std.proofs.Common.{◌≡◌, ◌≢◌, ◌⊎◌, inl, inr, ℕ, ◌+◌, ◌<◌, ◌≤◌, ◌^◌, ◌==◌, ℤ, pos, negsuc, Bool, true, false, ◌&&◌, nat_lt, if◌then◌else◌, List, length, slice_index, All, get_or, FitsSigned, refl, sym, ap, ◌∙◌, true≢false, arith}
use Rattle.std.proofs.lemmas.Bool.{false≢true}
use Rattle.std.proofs.lemmas.Bool.Decides.{nat_tests}
use Rattle.std.proofs.lemmas.List.Sums.{AllPass-from_list_all, list_all-from_AllPass}
use Rattle.std.proofs.lemmas.Str.{IsUtf8-from_is_utf8, is_utf8-from_IsUtf8}
use Rattle.std.specs.Char.{is_ascii_digit}
use Rattle.std.specs.Int.{w64}
use Rattle.std.specs.List.{AllPass, list_all}
use Rattle.std.specs.Str.{is_utf8}
use borrow.Author.Tests.{lt-ltb, ltb-true}
use Rattle.mk_value.specs.Data.{IsText}
use Rattle.mk_value.specs.Limits.{max_name}
use Rattle.mk_value.specs.Names.{IsName, is_name_byte}
use Rattle.mk_value.specs.Tokens.{Token, word, number, text, bytes, sign}
use Rattle.expr_text.specs.Walk.{is_held, is_long, is_name}

pub and_true : (a b : Bool) → a ≡ true → b ≡ true → (a && b) ≡ true
and_true a b p q = ap (λ x. x && b) p ∙ q

pub and_left : (a b : Bool) → (a && b) ≡ true → a ≡ true
and_left true b e = refl
and_left false b e = e

pub and_right : (a b : Bool) → (a && b) ≡ true → b ≡ true
and_right true b e = e
and_right false b e = absurd (false≢true e)

-- a test that is turned round
not_true : (b : Bool) → (if b then false else true) ≡ true → b ≡ false
not_true true e = absurd (false≢true e)
not_true false e = refl

true_not : (b : Bool) → b ≡ false → (if b then false else true) ≡ true
true_not b e = ap (λ x. if x then false else true) e

weaker : {P Q : ℕ → Type 0} → ((b : ℕ) → P b → Q b) → (xs : List ℕ) → All P xs → All Q xs
weaker turn xs all = λ k d p. turn (get_or xs k d) (all k d p)

pub is_name-from_IsName : (letters : List ℕ) → IsName letters → is_name letters ≡ true
is_name-from_IsName letters named =
    and_true _ _ (lt-ltb _ _ named.not_empty)
    (and_true _ _ (lt-ltb _ _ (omega (arith, named.short)))
    (and_true _ _ (list_all-from_AllPass is_name_byte letters named.characters) (true_not _ named.begins)))

pub IsName-from_is_name : (letters : List ℕ) → is_name letters ≡ true → IsName letters
IsName-from_is_name letters e =
    let one = and_right (nat_lt 0 (length letters)) _ e in
    let two = and_right (nat_lt (length letters) (max_name + 1)) _ one in
    let short : length letters < max_name + 1 = ltb-true _ _ (and_left (nat_lt (length letters) (max_name + 1)) _ one) in
    record {
      not_empty = ltb-true _ _ (and_left (nat_lt 0 (length letters)) _ e);
      short = omega arith;
      characters = AllPass-from_list_all is_name_byte letters (and_left (list_all is_name_byte letters) _ two);
      begins = not_true _ (and_right (list_all is_name_byte letters) _ two);
    }

is_long-from_FitsSigned : (z : ℤ) → FitsSigned w64 z → is_long z ≡ true
is_long-from_FitsSigned (pos n) h = lt-ltb _ _ h.sfits
is_long-from_FitsSigned (negsuc n) h = lt-ltb _ _ h.sfits

FitsSigned-from_is_long : (z : ℤ) → is_long z ≡ true → FitsSigned w64 z
FitsSigned-from_is_long (pos n) e = record { sfits = ltb-true _ _ e }
FitsSigned-from_is_long (negsuc n) e = record { sfits = ltb-true _ _ e }

-- a word is held where it is a name, and so on
pub held_word : (letters : List ℕ) → IsName letters → is_held (word letters) ≡ true
unfolding is_held
held_word letters named = is_name-from_IsName letters named

pub named_held : (letters : List ℕ) → is_held (word letters) ≡ true → IsName letters
unfolding is_held
named_held letters e = IsName-from_is_name letters e

pub held_number : (z : ℤ) → FitsSigned w64 z → is_held (number z) ≡ true
unfolding is_held
held_number z fits = is_long-from_FitsSigned z fits

pub fits_held : (z : ℤ) → is_held (number z) ≡ true → FitsSigned w64 z
unfolding is_held
fits_held z e = FitsSigned-from_is_long z e

pub held_count : (n : ℕ) → n < 2 ^ 63 → is_held (number (pos n)) ≡ true
held_count n small = held_number (pos n) (record { sfits = small })

pub count_held : (n : ℕ) → is_held (number (pos n)) ≡ true → n < 2 ^ 63
count_held n e = (fits_held (pos n) e).sfits

no_zero : (b : ℕ) → b ≢ 0 → (if b == 0 then false else true) ≡ true
no_zero b h = grind (arith, nat_tests)

some_zero : (b : ℕ) → (if b == 0 then false else true) ≡ true → b ≢ 0
some_zero b e = grind (arith, nat_tests)

pub held_text : (content : List ℕ) → IsText content → is_held (text content) ≡ true
unfolding is_held
held_text content whole =
    and_true _ _ (is_utf8-from_IsUtf8 content whole.utf8)
    (list_all-from_AllPass (λ b. if b == 0 then false else true) content (weaker no_zero content whole.no_zero))

pub text_held : (content : List ℕ) → is_held (text content) ≡ true → IsText content
unfolding is_held
text_held content e = record {
  utf8 = IsUtf8-from_is_utf8 content (and_left (is_utf8 content) _ e);
  no_zero = weaker some_zero content (AllPass-from_list_all (λ b. if b == 0 then false else true) content (and_right (is_utf8 content) _ e));
}

pub held_bytes : (content : List ℕ) → All (λ b. b < 256) content → is_held (bytes content) ≡ true
unfolding is_held
held_bytes content whole = list_all-from_AllPass (λ b. nat_lt b 256) content (weaker {P = λ b. b < 256} {Q = λ b. nat_lt b 256 ≡ true} (λ b h. lt-ltb b 256 h) content whole)

pub bytes_held : (content : List ℕ) → is_held (bytes content) ≡ true → All (λ b. b < 256) content
unfolding is_held
bytes_held content e = weaker {P = λ b. nat_lt b 256 ≡ true} {Q = λ b. b < 256} (λ b h. ltb-true b 256 h) content (AllPass-from_list_all (λ b. nat_lt b 256) content e)

pub held_sign : (s : ℕ) → is_held (sign s) ≡ true
unfolding is_held
held_sign s = refl

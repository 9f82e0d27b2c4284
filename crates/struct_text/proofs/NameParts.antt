-- A name at a place of a text: when it may stand there, and what refuses it.
use Rattle.std.proofs.Common.{◌≡◌, ℕ, ◌+◌, ◌<◌, ◌≤◌, Bool, true, false, not, ◌||◌, ◌==◌, nat_lt, List, [], ◌∷◌, length, drop, refl, sym, ◌∙◌, ap, subst, ⊎_elim, arith, Some, None, get_or, Contains, slice_index, eq-eqb, lt-ltb, le-ltb}
use Rattle.std.specs.List.{AllPass, list_any}
use Rattle.std.proofs.lemmas.Bool.{true≢false, and_parts, cases_Bool, not-true, ne_eqb}
use Rattle.std.proofs.lemmas.List.{drop_more}
use Rattle.std.proofs.lemmas.List.Elements.{All-cons}
use Rattle.std.specs.Char.{is_ascii_digit}
use Rattle.mk_value.specs.Limits.{max_name, max_properties}
use Rattle.mk_value.specs.Names.{IsName, is_name_byte, same_bytes}
use Rattle.mk_value.specs.Heading.{Attribute, names_of}
use Rattle.struct_text.specs.Bytes.{is_name_start}
use Rattle.struct_text.specs.declared.error.StructError.TheVariants.{Syntax, TooMany, TooLong, Repeated}
use Rattle.struct_text.specs.Flaws.{has_name, first_of_six}
use Rattle.struct_text.specs.Offences.{name_at}
use Rattle.struct_text.specs.Reading.{IsNameAt, RefusesName}
use Rattle.struct_text.proofs.Flaws.{has_name-from}
use Rattle.struct_text.proofs.Moves.{run, run-yes, run-no, name_flaw_at, name_at_end}

-- among the names of properties, or among the properties
pub has_name-names : (properties : List Attribute) (word : List ℕ) → list_any (λ a. same_bytes a.name word) properties ≡ has_name (names_of properties) word
has_name-names [] word = refl
has_name-names (a ∷ properties) word = ap (λ t. same_bytes a.name word || t) (has_name-names properties word)

AllPass-run : (rest : List ℕ) → AllPass is_name_byte (run rest)
AllPass-run [] = λ k d h. absurd (omega arith)
AllPass-run (b ∷ rest) =
    let further = AllPass-run rest in
    ⊎_elim
    (λ e. subst (AllPass is_name_byte) (sym (run-yes b rest e)) (All-cons (λ x. is_name_byte x ≡ true) b (run rest) e further))
    (λ e. subst (AllPass is_name_byte) (sym (run-no b rest e)) (λ k d h. absurd (omega arith)))
    (cases_Bool (is_name_byte b))

-- a run that begins as a name and isn't too long is one
valid_run : (b : ℕ) (rest : List ℕ) → is_name_start b ≡ true → length (run (b ∷ rest)) ≤ max_name → IsName (run (b ∷ rest))
valid_run b rest h l =
    let parts = and_parts (is_name_byte b) (not (is_ascii_digit b)) h in
    let is : run (b ∷ rest) ≡ b ∷ run rest = run-yes b rest parts.0 in
    record {
      not_empty = omega (arith, ap length is);
      short = l;
      characters = AllPass-run (b ∷ rest);
      begins = ap (λ w. is_ascii_digit (slice_index w 0)) is ∙ not-true (is_ascii_digit b) parts.1;
    }

many_of_six : (s m l r : Bool) (p : ℕ) → s ≡ true → m ≡ true → first_of_six (not s) false false m l r p ≡ Some (TooMany p)
many_of_six s m l r p h k = rw (h, k) refl

long_of_six : (s m l r : Bool) (p : ℕ) → s ≡ true → m ≡ false → l ≡ true → first_of_six (not s) false false m l r p ≡ Some (TooLong p)
long_of_six s m l r p h k j = rw (h, k, j) refl

repeated_of_six : (s m l r : Bool) (p : ℕ) → s ≡ true → m ≡ false → l ≡ false → r ≡ true → first_of_six (not s) false false m l r p ≡ Some (Repeated p)
repeated_of_six s m l r p h k j i = rw (h, k, j, i) refl

pub none_of_six : (s m l r : Bool) (p : ℕ) → s ≡ true → m ≡ false → l ≡ false → r ≡ false → first_of_six (not s) false false m l r p ≡ None
none_of_six s m l r p h k j i = rw (h, k, j, i) refl

module _ (bytes : List ℕ) (at : ℕ) (before : List (List ℕ)) where
  pub refuses_end : length bytes ≤ at → RefusesName bytes at before (Syntax at)
  refuses_end h = λ outer. name_at_end bytes at before outer h

  pub refuses_byte : at < length bytes → is_name_start (get_or bytes at 0) ≡ false → RefusesName bytes at before (Syntax at)
  refuses_byte l h = λ outer. name_flaw_at bytes at before outer l
      ∙ ap (λ t. first_of_six (not t) false false (length before == max_properties) (nat_lt max_name (length (run (drop at bytes)))) (has_name before (run (drop at bytes))) at) h

  pub refuses_many : at < length bytes → is_name_start (get_or bytes at 0) ≡ true → length before ≡ max_properties → RefusesName bytes at before (TooMany at)
  refuses_many l h m = λ outer. name_flaw_at bytes at before outer l
      ∙ many_of_six (is_name_start (get_or bytes at 0)) (length before == max_properties) (nat_lt max_name (length (run (drop at bytes)))) (has_name before (run (drop at bytes))) at h (eq-eqb (length before) max_properties m)

  pub refuses_long : at < length bytes → is_name_start (get_or bytes at 0) ≡ true → (length before ≡ max_properties → ⊥) → max_name < length (name_at bytes at) → RefusesName bytes at before (TooLong at)
  refuses_long l h m n = λ outer. name_flaw_at bytes at before outer l
      ∙ long_of_six (is_name_start (get_or bytes at 0)) (length before == max_properties) (nat_lt max_name (length (run (drop at bytes)))) (has_name before (run (drop at bytes))) at h
      (ne_eqb (length before) max_properties m) (lt-ltb max_name (length (name_at bytes at)) n)

  pub refuses_repeated : at < length bytes → is_name_start (get_or bytes at 0) ≡ true → (length before ≡ max_properties → ⊥) → length (name_at bytes at) ≤ max_name
      → has_name before (name_at bytes at) ≡ true → RefusesName bytes at before (Repeated at)
  refuses_repeated l h m n r = λ outer. name_flaw_at bytes at before outer l
      ∙ repeated_of_six (is_name_start (get_or bytes at 0)) (length before == max_properties) (nat_lt max_name (length (run (drop at bytes)))) (has_name before (run (drop at bytes))) at h
      (ne_eqb (length before) max_properties m) (le-ltb max_name (length (name_at bytes at)) n) r

  pub valid_at : at < length bytes → is_name_start (get_or bytes at 0) ≡ true → length (name_at bytes at) ≤ max_name → IsName (name_at bytes at)
  valid_at l h n =
      let P : List ℕ → Type 0 = λ rest. length (run rest) ≤ max_name → IsName (run rest) in
      subst P (sym (drop_more bytes at 0 l)) (valid_run (get_or bytes at 0) (drop (at + 1) bytes) h) n

  pub name_found : (name : List ℕ) → at < length bytes → is_name_start (get_or bytes at 0) ≡ true → length before ≤ max_properties → (length before ≡ max_properties → ⊥) → length (name_at bytes at) ≤ max_name
      → has_name before (name_at bytes at) ≡ false → name ≡ name_at bytes at → IsNameAt bytes at before name
  name_found name l h f m n r e = record {
    is = e;
    valid = subst IsName (sym e) (valid_at l h n);
    few = omega (arith, f, m);
    fresh = λ held. true≢false (sym (has_name-from before (name_at bytes at) (subst (Contains before) e held)) ∙ r);
    clean = λ outer. name_flaw_at bytes at before outer l
        ∙ none_of_six (is_name_start (get_or bytes at 0)) (length before == max_properties) (nat_lt max_name (length (run (drop at bytes)))) (has_name before (run (drop at bytes))) at h
        (ne_eqb (length before) max_properties m) (le-ltb max_name (length (name_at bytes at)) n) r;
  }

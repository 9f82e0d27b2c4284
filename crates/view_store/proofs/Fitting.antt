-- The test whether a value is of a domain tells just that.
use Rattle.std.proofs.Common.{◌≡◌, ◌≢◌, ◌↔◌, ℕ, ◌+◌, ◌≤◌, ◌^◌, ℤ, pos, negsuc, Bool, true, false, not, cond, leb, eqb, IsTrue, List, [], ◌∷◌, length, map, drop, All, Some, None, refl, ap, sym, ◌∙◌, arith, ◌&&◌}
use Rattle.std.specs.Bool.{Decides}
use Rattle.std.specs.Int.{w32, w64}
use Rattle.std.specs.Prelude.{FitsSigned}
use Rattle.std.specs.List.{list_all}
use Rattle.std.specs.Str.{IsUtf8, is_utf8}
use Rattle.std.proofs.lemmas.Bool.{false≢true}
use Rattle.std.proofs.lemmas.Bool.Decides.{Decides-ltb, Decides-eqb, Decides-and, Decides-not, Decides-like, Decides-by_and, same_from_decides, nat_tests}
use Rattle.std.proofs.lemmas.Str.{IsUtf8-from_is_utf8, is_utf8-from_IsUtf8, IsUtf8-nil}
use Rattle.std.proofs.lemmas.List.Elements.{All-nil}
use Rattle.mk_value.specs.Limits.{max_bytes, max_rows}
use Rattle.mk_value.specs.Heading.{Domain, Heading, no_attributes, attribute, Attribute, find}
use Rattle.mk_value.specs.Data.{Datum, integer, long, text, bytes, relation, Tuple, no_values, value, Relation, no_tuples, tuple, rows_of, default_of, IsText, IsOf, IsTupleOf, AreTuplesOf, IsRowOf}
use Rattle.mk_value.specs.Tables.{domain_at}
use Rattle.view_store.specs.declared.error.EditError.TheVariants.{WrongKind}
use Rattle.view_store.specs.Fitting.{is_within, is_of, is_tuple_of, are_tuples_of, are_of}
use Rattle.tables.specs.Rows.{completed}
use Rattle.view_store.specs.Refusals.{value_refusal}

Decides-leb : (a b : ℕ) → Decides (leb a b) (a ≤ b)
Decides-leb a b = (λ e. grind (arith, nat_tests), λ h. grind (arith, nat_tests))

within_32 : (z : ℤ) → Decides (is_within (2 ^ 31) z) (FitsSigned w32 z)
within_32 (pos n) = let d = Decides-ltb n (2 ^ 31) in (λ e. record { sfits = d.0 e }, λ h. d.1 h.sfits)
within_32 (negsuc n) = let d = Decides-ltb n (2 ^ 31) in (λ e. record { sfits = d.0 e }, λ h. d.1 h.sfits)

within_64 : (z : ℤ) → Decides (is_within (2 ^ 63) z) (FitsSigned w64 z)
within_64 (pos n) = let d = Decides-ltb n (2 ^ 63) in (λ e. record { sfits = d.0 e }, λ h. d.1 h.sfits)
within_64 (negsuc n) = let d = Decides-ltb n (2 ^ 63) in (λ e. record { sfits = d.0 e }, λ h. d.1 h.sfits)

text_fits : (content : List ℕ) → Decides (is_utf8 content && list_all (λ b. not (eqb b 0)) content && leb (length content) max_bytes) (IsText content × (length content ≤ max_bytes))
text_fits content =
    let utf8 : Decides (is_utf8 content) (IsUtf8 content) = (IsUtf8-from_is_utf8 content, is_utf8-from_IsUtf8 content) in
    let no_zero : Decides (list_all (λ b. not (eqb b 0)) content) (All (λ b. b ≢ 0) content) =
    Decides-by_and (λ b. not (eqb b 0)) (λ b. b ≢ 0) (list_all (λ b. not (eqb b 0))) (λ b. Decides-not (eqb b 0) (Decides-eqb b 0)) refl (λ _ _. refl) content in
    let both = Decides-and (is_utf8 content) (list_all (λ b. not (eqb b 0)) content) utf8 no_zero in
    let is_text : Decides (is_utf8 content && list_all (λ b. not (eqb b 0)) content) (IsText content) =
    Decides-like _ (λ p. record { utf8 = p.0; no_zero = p.1 }) (λ p. (p.utf8, p.no_zero)) both in
    Decides-and _ (leb (length content) max_bytes) is_text (Decides-leb (length content) max_bytes)

never : Decides false ⊥
never = (λ e. false≢true e, λ h. absurd h)

mutual
  pub is_of_tells : (d : Datum) (e : Domain) → Decides (is_of d e) (IsOf d e)
  is_of_tells (integer z) Domain.integer = within_32 z
  is_of_tells (long z) Domain.long = within_64 z
  is_of_tells (text content) Domain.text = text_fits content
  is_of_tells (bytes content) Domain.bytes = Decides-leb (length content) max_bytes
  is_of_tells (relation r) (Domain.relation h) =
      Decides-and (leb (length (rows_of r)) max_rows) (are_tuples_of r h) (Decides-leb (length (rows_of r)) max_rows) (are_tuples_of_tells r h)
  is_of_tells _ _ = never

  is_tuple_of_tells : (t : Tuple) (h : Heading) → Decides (is_tuple_of t h) (IsTupleOf t h)
  is_tuple_of_tells no_values no_attributes = (λ _. tt, λ _. refl)
  is_tuple_of_tells (value d rest) (attribute n e others) = Decides-and (is_of d e) (is_tuple_of rest others) (is_of_tells d e) (is_tuple_of_tells rest others)
  is_tuple_of_tells _ _ = never

  are_tuples_of_tells : (r : Relation) (h : Heading) → Decides (are_tuples_of r h) (AreTuplesOf r h)
  are_tuples_of_tells no_tuples h = (λ _. tt, λ _. refl)
  are_tuples_of_tells (tuple t rest) h = Decides-and (is_tuple_of t h) (are_tuples_of rest h) (is_tuple_of_tells t h) (are_tuples_of_tells rest h)

-- an answer that tells whether a value is of a domain is the test's
pub fits_is : (r : Bool) (d : Datum) (e : Domain) → (IsTrue r ↔ IsOf d e) → r ≡ is_of d e
fits_is r d e h = same_from_decides r (is_of d e) (h.0, h.1) (is_of_tells d e)

-- what a value is refused for, where its property is at a place
pub value_refusal-found : (schema : List Attribute) (name : List ℕ) (k : ℕ) (d : Datum) (e : Domain) (r : Bool) → find schema name ≡ Some k → domain_at schema k ≡ e → (IsTrue r ↔ IsOf d e)
    → value_refusal schema (find schema name) d ≡ cond r None (Some WrongKind)
value_refusal-found schema name k d e r found view h =
    ap (λ o. value_refusal schema o d) found ∙ ap (λ (x : Domain). cond (is_of d x) None (Some WrongKind)) view ∙ ap (λ b. cond b None (Some WrongKind)) (sym (fits_is r d e h))

default_is_of : (e : Domain) → IsOf (default_of e) e
default_is_of Domain.integer = (within_32 (pos 0)).0 refl
default_is_of Domain.long = (within_64 (pos 0)).0 refl
default_is_of Domain.text = (record { utf8 = IsUtf8-nil; no_zero = All-nil (λ b. b ≢ 0) }, omega arith)
default_is_of Domain.bytes = omega arith
default_is_of (Domain.relation h) = (omega arith, tt)

defaults_fit : (schema : List Attribute) → IsRowOf (map (λ a. default_of a.domain) schema) schema
defaults_fit [] = tt
defaults_fit (a ∷ schema) = (default_is_of a.domain, defaults_fit schema)

both_true : (x y : Bool) → (x && y) ≡ true → (x ≡ true) × (y ≡ true)
both_true true true e = (refl, refl)
both_true true false e = absurd (false≢true e)
both_true false y e = absurd (false≢true e)

-- a row whose values fit is one of the schema, once defaults were put at its end
pub completed_fits : (row : List Datum) (schema : List Attribute) → length row ≤ length schema → are_of row schema ≡ true → IsRowOf (completed schema row) schema
completed_fits [] schema p e = defaults_fit schema
completed_fits (d ∷ row) [] p e = absurd (omega arith)
completed_fits (d ∷ row) (a ∷ schema) p e =
    let parts = both_true (is_of d a.domain) (are_of row schema) e in
    ((is_of_tells d a.domain).0 parts.0, completed_fits row schema (omega arith) parts.1)

-- one value further in a row
pub are_of-more : (row : List Datum) (schema : List Attribute) (i : ℕ) (x : Datum) (a : Attribute) → drop i row ≡ x ∷ drop (i + 1) row → drop i schema ≡ a ∷ drop (i + 1) schema
    → are_of (drop i row) (drop i schema) ≡ (is_of x a.domain && are_of (drop (i + 1) row) (drop (i + 1) schema))
are_of-more row schema i x a e f = ap (λ ds. are_of ds (drop i schema)) e ∙ ap (λ as'. are_of (x ∷ drop (i + 1) row) as') f

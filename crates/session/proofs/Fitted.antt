-- The tests whether a literal fits and is short tell just that.
use Rattle.std.proofs.Common.{◌≡◌, ◌↔◌, ℕ, ◌+◌, ◌≤◌, ◌^◌, ℤ, pos, negsuc, Bool, true, false, leb, IsTrue, List, [], ◌∷◌, ◌++◌, length, drop, Option, Some, None, refl, ap, sym, ◌∙◌, arith, ◌&&◌, append_assoc, append-nil, inl, inr}
use Rattle.std.specs.Prelude.{◌⊎◌}
use Rattle.std.specs.Bool.{Decides}
use Rattle.std.specs.Int.{w32}
use Rattle.std.specs.Prelude.{FitsSigned}
use Rattle.std.proofs.lemmas.Bool.{false≢true}
use Rattle.std.proofs.lemmas.List.{drop_all}
use Rattle.std.proofs.lemmas.Bool.Decides.{Decides-ltb, Decides-and, same_from_decides, nat_tests}
use Rattle.mk_value.specs.Conversions.{LiteralFits, LiteralRowFits, LiteralsFit, IsShort, IsShortRow, AreShort, becomes}
use Rattle.mk_value.specs.Limits.{max_bytes, max_rows}
use Rattle.mk_value.specs.Heading.{Domain, Heading, no_attributes, attribute, Attribute, find}
use Rattle.mk_value.specs.Data.{Datum, integer, long, text, bytes, relation, Tuple, no_values, value, Relation, no_tuples, tuple, rows_of, IsOf}
use Rattle.mk_value.specs.Tables.{domain_at}
use Rattle.view_store.specs.Fitting.{is_within, are_of}
use Rattle.view_store.proofs.Fitting.{is_of_tells}
use Rattle.cmd_text.specs.declared.refusal.Refusal.TheVariants.{Kind, Limit, Memory}
use Rattle.cmd_text.specs.declared.refusal.Refusal.{Refusal}
use Rattle.session.specs.Fitting.{fits, row_fits, rows_fit, all_fit, is_short, is_short_row, are_short, all_short}
use Rattle.session.specs.Refusals.{literal_refusal, unless}
use Rattle.session.specs.Values.{values_for}

Decides-leb : (a b : ℕ) → Decides (leb a b) (a ≤ b)
Decides-leb a b = (λ e. grind (arith, nat_tests), λ h. grind (arith, nat_tests))

within_32 : (z : ℤ) → Decides (is_within (2 ^ 31) z) (FitsSigned w32 z)
within_32 (pos n) = let d = Decides-ltb n (2 ^ 31) in (λ e. record { sfits = d.0 e }, λ h. d.1 h.sfits)
within_32 (negsuc n) = let d = Decides-ltb n (2 ^ 31) in (λ e. record { sfits = d.0 e }, λ h. d.1 h.sfits)

never : Decides false ⊥
never = (λ e. false≢true e, λ h. absurd h)

always : Decides true (Unit {0})
always = (λ _. tt, λ _. refl)

mutual
  pub fits_tells : (d : Datum) (e : Domain) → Decides (fits d e) (LiteralFits d e)
  fits_tells (long z) Domain.integer = within_32 z
  fits_tells (long z) Domain.long = always
  fits_tells (text content) Domain.text = always
  fits_tells (bytes content) Domain.bytes = always
  fits_tells (relation r) (Domain.relation h) = rows_fit_tells r h
  fits_tells _ _ = never

  row_fits_tells : (t : Tuple) (h : Heading) → Decides (row_fits t h) (LiteralRowFits t h)
  row_fits_tells no_values h = always
  row_fits_tells (value d rest) (attribute n e h) = Decides-and (fits d e) (row_fits rest h) (fits_tells d e) (row_fits_tells rest h)
  row_fits_tells (value d rest) no_attributes = never

  rows_fit_tells : (r : Relation) (h : Heading) → Decides (rows_fit r h) (LiteralsFit r h)
  rows_fit_tells no_tuples h = always
  rows_fit_tells (tuple t rest) h = Decides-and (row_fits t h) (rows_fit rest h) (row_fits_tells t h) (rows_fit_tells rest h)

mutual
  pub is_short_tells : (d : Datum) → Decides (is_short d) (IsShort d)
  is_short_tells (integer z) = always
  is_short_tells (long z) = always
  is_short_tells (text content) = Decides-leb (length content) max_bytes
  is_short_tells (bytes content) = Decides-leb (length content) max_bytes
  is_short_tells (relation r) =
      Decides-and (leb (length (rows_of r)) max_rows) (are_short r) (Decides-leb (length (rows_of r)) max_rows) (are_short_tells r)

  is_short_row_tells : (t : Tuple) → Decides (is_short_row t) (IsShortRow t)
  is_short_row_tells no_values = always
  is_short_row_tells (value d rest) = Decides-and (is_short d) (is_short_row rest) (is_short_tells d) (is_short_row_tells rest)

  are_short_tells : (r : Relation) → Decides (are_short r) (AreShort r)
  are_short_tells no_tuples = always
  are_short_tells (tuple t rest) = Decides-and (is_short_row t) (are_short rest) (is_short_row_tells t) (are_short_tells rest)

-- an answer that tells whether a literal fits is the test's
pub fits_is : (r : Bool) (d : Datum) (e : Domain) → (IsTrue r ↔ LiteralFits d e) → r ≡ fits d e
fits_is r d e h = same_from_decides r (fits d e) (h.0, h.1) (fits_tells d e)

-- what is not so tests false
pub not_short : (d : Datum) → (IsShort d → ⊥) → is_short d ≡ false
not_short d too_long = elim (is_short d) as (λ b. is_short d ≡ b → b ≡ false) [ true ↦ λ e. absurd (too_long ((is_short_tells d).0 e)) | false ↦ λ e. refl ] refl

-- what fits no shorter is short
pub short_unless : (d : Datum) (e : Domain) → LiteralFits d e → (LiteralFits d e × (IsShort d → ⊥) → ⊥) → is_short d ≡ true
short_unless d e f other =
    elim (is_short d) as (λ b. is_short d ≡ b → b ≡ true) [ true ↦ λ e'. refl | false ↦ λ e'. absurd (other (f, λ s. false≢true (sym e' ∙ (is_short_tells d).1 s))) ] refl

-- one literal further in a row
pub all_fit-more : (row : List Datum) (schema : List Attribute) (i : ℕ) (x : Datum) (a : Attribute) → drop i row ≡ x ∷ drop (i + 1) row → drop i schema ≡ a ∷ drop (i + 1) schema
    → all_fit (drop i row) (drop i schema) ≡ (fits x a.domain && all_fit (drop (i + 1) row) (drop (i + 1) schema))
all_fit-more row schema i x a e f = ap (λ ds. all_fit ds (drop i schema)) e ∙ ap (λ as'. all_fit (x ∷ drop (i + 1) row) as') f

-- what a literal is refused for, where its property is at a place
pub literal_refusal-found : (schema : List Attribute) (name : List ℕ) (k : ℕ) (d : Datum) (e : Domain) (r : Bool) → find schema name ≡ Some k → domain_at schema k ≡ e → (IsTrue r ↔ LiteralFits d e)
    → literal_refusal d schema (find schema name) ≡ unless r Kind
literal_refusal-found schema name k d e r found view h =
    ap (λ o. literal_refusal d schema o) found ∙ ap (λ (x : Domain). unless (fits d x) Kind) view ∙ ap (λ b. unless b Kind) (sym (fits_is r d e h))

pub unless_none : (b : Bool) (r : Refusal) → unless b r ≡ None → b ≡ true
unless_none true r e = refl
unless_none false r e = absurd (let f : ◌≡◌ {A = Option Refusal} (Some r) None = e in cc)

no_values_for : (schema : List Attribute) → values_for schema [] ≡ []
no_values_for [] = refl
no_values_for (a ∷ schema) = refl

no_values_are_of : (schema : List Attribute) → are_of [] schema ≡ true
no_values_are_of [] = refl
no_values_are_of (a ∷ schema) = refl

pub both_true : (x y : Bool) → (x && y) ≡ true → (x ≡ true) × (y ≡ true)
both_true true true e = (refl, refl)
both_true true false e = absurd (false≢true e)
both_true false y e = absurd (false≢true e)

-- What is known half way through a row of literals: the values so far are those of the literals so far and fit, and the literals so far
-- are short.
pub record SoFar (literals : List Datum) (schema : List Attribute) (row : List Datum) (i : ℕ) : Type 0 where
  pub values : row ++ values_for (drop i schema) (drop i literals) ≡ values_for schema literals
  pub rest : all_fit (drop i literals) (drop i schema) ≡ true
  pub whole : (more : List Datum) → are_of more (drop i schema) ≡ true → are_of (row ++ more) schema ≡ true
  pub short : all_short literals ≡ all_short (drop i literals)

pub so_far_start : (literals : List Datum) (schema : List Attribute) → all_fit literals schema ≡ true → SoFar literals schema [] 0
so_far_start literals schema fit = record { values = refl; rest = fit; whole = λ more e. e; short = refl }

-- the next literal fits
pub next_fits : (literals : List Datum) (schema : List Attribute) (row : List Datum) (i : ℕ) (x : Datum) (a : Attribute) → drop i literals ≡ x ∷ drop (i + 1) literals → drop i schema ≡ a ∷ drop (i + 1) schema
    → SoFar literals schema row i → fits x a.domain ≡ true
next_fits literals schema row i x a e f h = (both_true (fits x a.domain) _ (sym (all_fit-more literals schema i x a e f) ∙ h.rest)).0

-- the next literal is too long, and so the row is
pub next_long : (literals : List Datum) (schema : List Attribute) (row : List Datum) (i : ℕ) (x : Datum) → drop i literals ≡ x ∷ drop (i + 1) literals
    → SoFar literals schema row i → is_short x ≡ false → all_short literals ≡ false
next_long literals schema row i x e h too_long = h.short ∙ ap all_short e ∙ ap (λ b. b && all_short (drop (i + 1) literals)) too_long

pub so_far_next : (literals : List Datum) (schema : List Attribute) (row : List Datum) (i : ℕ) (x : Datum) (a : Attribute) (d : Datum) → drop i literals ≡ x ∷ drop (i + 1) literals → drop i schema ≡ a ∷ drop (i + 1) schema
    → d ≡ becomes x a.domain → IsOf d a.domain → is_short x ≡ true → SoFar literals schema row i → SoFar literals schema (row ++ d ∷ []) (i + 1)
so_far_next literals schema row i x a d e f is whole short h = record {
  values = append_assoc row (d ∷ []) _
      ∙ ap (λ y. row ++ (y ∷ values_for (drop (i + 1) schema) (drop (i + 1) literals))) is
      ∙ sym (ap (λ s. row ++ values_for s (drop i literals)) f ∙ ap (λ ds. row ++ values_for (a ∷ drop (i + 1) schema) ds) e)
      ∙ h.values;
  rest = (both_true (fits x a.domain) _ (sym (all_fit-more literals schema i x a e f) ∙ h.rest)).1;
  whole = λ more m. ap (λ ds. are_of ds schema) (append_assoc row (d ∷ []) more)
      ∙ h.whole (d ∷ more) (ap (λ s. are_of (d ∷ more) s) f ∙ ap (λ b. b && are_of more (drop (i + 1) schema)) ((is_of_tells d a.domain).1 whole) ∙ m);
  short = h.short ∙ ap all_short e ∙ ap (λ b. b && all_short (drop (i + 1) literals)) short;
}

pub so_far_values : (literals : List Datum) (schema : List Attribute) (row : List Datum) (i : ℕ) → length literals ≤ i → SoFar literals schema row i → row ≡ values_for schema literals
so_far_values literals schema row i p h =
    sym (append-nil row) ∙ ap (λ rest. row ++ rest) (sym (no_values_for (drop i schema)) ∙ ap (λ ds. values_for (drop i schema) ds) (sym (drop_all i literals p))) ∙ h.values

pub so_far_whole : (literals : List Datum) (schema : List Attribute) (row : List Datum) (i : ℕ) → SoFar literals schema row i → are_of row schema ≡ true
so_far_whole literals schema row i h = ap (λ ds. are_of ds schema) (sym (append-nil row)) ∙ h.whole [] (no_values_are_of (drop i schema))

pub so_far_short : (literals : List Datum) (schema : List Attribute) (row : List Datum) (i : ℕ) → length literals ≤ i → SoFar literals schema row i → all_short literals ≡ true
so_far_short literals schema row i p h = h.short ∙ ap all_short (drop_all i literals p)

-- a refusal of the next literal is one of the row
pub refused_next : (literals : List Datum) (schema : List Attribute) (row : List Datum) (i : ℕ) (x : Datum) (r : Refusal) → drop i literals ≡ x ∷ drop (i + 1) literals → SoFar literals schema row i
    → (unless (is_short x) Limit ≡ Some r) ⊎ (r ≡ Memory) → (unless (all_short literals) Limit ≡ Some r) ⊎ (r ≡ Memory)
refused_next literals schema row i x r e h (inr memory) = inr memory
refused_next literals schema row i x r e h (inl due) =
    elim (is_short x) as (λ b. is_short x ≡ b → unless b Limit ≡ Some r → (unless (all_short literals) Limit ≡ Some r) ⊎ (r ≡ Memory)) [
      | true ↦ λ is d. absurd (let f : ◌≡◌ {A = Option Refusal} None (Some r) = d in cc)
      | false ↦ λ is d. inl (ap (λ b. unless b Limit) (next_long literals schema row i x e h is) ∙ d)
    ] refl due

-- there are no more values than properties
pub values_few : (schema : List Attribute) (literals : List Datum) → length (values_for schema literals) ≤ length schema
values_few [] [] = omega arith
values_few [] (d ∷ literals) = omega arith
values_few (a ∷ schema) [] = omega arith
values_few (a ∷ schema) (d ∷ literals) = let h = values_few schema literals in omega (arith, h)

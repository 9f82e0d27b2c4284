-- Literals and what they become, one value or row at a time.
use Rattle.std.proofs.Common.{◌≡◌, ◌↔◌, ℕ, zero, suc, ◌+◌, ◌≤◌, List, [], ◌∷◌, ◌++◌, length, drop, refl, ap, sym, subst, ◌∙◌, arith, rules, add-one, append_assoc}
use Rattle.std.proofs.lemmas.Str.{IsUtf8-nil}
use Rattle.std.specs.List.{slice_get}
use Rattle.mk_value.specs.Heading.{Domain, Heading, no_attributes, attribute, Attribute, heading_of}
use Rattle.mk_value.specs.Data.{Datum, integer, long, text, bytes, relation, Tuple, no_values, value, Relation, no_tuples, tuple, values_of, tuple_of, rows_of, relation_of, IsOf, IsTupleOf, AreTuplesOf, default_of}
use Rattle.mk_value.specs.Conversions.{LiteralFits, LiteralRowFits, LiteralsFit, IsShort, IsShortRow, AreShort, IsProper, IsProperRow, AreProper, becomes, row_becomes, rows_become, defaults, CellFits, cell_becomes}
use Rattle.mk_value.proofs.Relations.{rows_of-relation_of}

-- one literal further in a row
pub row_fits_more : (row : List Datum) (schema : List Attribute) (i : ℕ) (x : Datum) (a : Attribute) → drop i row ≡ x ∷ drop (i + 1) row → drop i schema ≡ a ∷ drop (i + 1) schema → LiteralFits x a.domain
    → (LiteralRowFits (tuple_of row) (heading_of schema) ↔ LiteralRowFits (tuple_of (drop i row)) (heading_of (drop i schema)))
    → (LiteralRowFits (tuple_of row) (heading_of schema) ↔ LiteralRowFits (tuple_of (drop (i + 1) row)) (heading_of (drop (i + 1) schema)))
row_fits_more row schema i x a e f h rest =
    let more = rw (e, f) at rest in (λ p. (more.0 p).1, λ p. more.1 (h, p))

pub row_fits_no : (row : List Datum) (schema : List Attribute) (i : ℕ) (x : Datum) (a : Attribute) → drop i row ≡ x ∷ drop (i + 1) row → drop i schema ≡ a ∷ drop (i + 1) schema → (LiteralFits x a.domain → ⊥)
    → (LiteralRowFits (tuple_of row) (heading_of schema) ↔ LiteralRowFits (tuple_of (drop i row)) (heading_of (drop i schema))) → LiteralRowFits (tuple_of row) (heading_of schema) → ⊥
row_fits_no row schema i x a e f h rest p = let more = rw (e, f) at rest in h (more.0 p).0

pub row_fits_length : (row : List Datum) (schema : List Attribute) → LiteralRowFits (tuple_of row) (heading_of schema) → length row ≤ length schema
row_fits_length [] schema h = omega arith
row_fits_length (d ∷ ds) [] h = absurd h
row_fits_length (d ∷ ds) (a ∷ as') h = omega (arith, row_fits_length ds as' h.1)

-- one literal further in a row that may be too long
pub short_row_more : (row : List Datum) (i : ℕ) (x : Datum) → drop i row ≡ x ∷ drop (i + 1) row → IsShort x → (IsShortRow (tuple_of row) ↔ IsShortRow (tuple_of (drop i row))) → (IsShortRow (tuple_of row) ↔ IsShortRow (tuple_of (drop (i + 1) row)))
short_row_more row i x e h rest = let more = rw e at rest in (λ p. (more.0 p).1, λ p. more.1 (h, p))

pub short_row_no : (row : List Datum) (i : ℕ) (x : Datum) → drop i row ≡ x ∷ drop (i + 1) row → (IsShort x → ⊥) → (IsShortRow (tuple_of row) ↔ IsShortRow (tuple_of (drop i row))) → IsShortRow (tuple_of row) → ⊥
short_row_no row i x e h rest p = let more = rw e at rest in h (more.0 p).0

pub rows_count : (rows : List (List Datum)) → length (rows_of (relation_of rows)) ≡ length rows
rows_count rows = ap length (rows_of-relation_of rows)

-- one place further in a row that is converted
step_suc : (row : List Datum) (i : ℕ) (n : List ℕ) (e : Domain) (h : Heading) → values_of (row_becomes (tuple_of (drop i row)) (attribute n e h)) ≡ cell_becomes (slice_get row i) e ∷ values_of (row_becomes (tuple_of (drop (suc i) row)) h)
step_suc [] zero n e h = refl
step_suc [] (suc i) n e h = refl
step_suc (d ∷ ds) zero n e h = refl
step_suc (d ∷ ds) (suc i) n e h = step_suc ds i n e h

fits_suc : (row : List Datum) (i : ℕ) (n : List ℕ) (e : Domain) (h : Heading) → LiteralRowFits (tuple_of (drop i row)) (attribute n e h) → CellFits (slice_get row i) e × LiteralRowFits (tuple_of (drop (suc i) row)) h
fits_suc [] zero n e h p = (tt, tt)
fits_suc [] (suc i) n e h p = (tt, tt)
fits_suc (d ∷ ds) zero n e h p = p
fits_suc (d ∷ ds) (suc i) n e h p = fits_suc ds i n e h p

pub cell_fits : (row : List Datum) (schema : List Attribute) (i : ℕ) (a : Attribute) → drop i schema ≡ a ∷ drop (i + 1) schema → LiteralRowFits (tuple_of (drop i row)) (heading_of (drop i schema))
    → CellFits (slice_get row i) a.domain × LiteralRowFits (tuple_of (drop (i + 1) row)) (heading_of (drop (i + 1) schema))
cell_fits row schema i a e p =
    let q = rw e at p in
    let r = fits_suc row i a.name a.domain (heading_of (drop (i + 1) schema)) q in
    (r.0, subst (λ k. LiteralRowFits (tuple_of (drop k row)) (heading_of (drop (i + 1) schema))) (sym (add-one i)) r.1)

pub row_converted_more : (done row : List Datum) (schema : List Attribute) (i : ℕ) (a : Attribute) (d : Datum) (whole : List Datum) → drop i schema ≡ a ∷ drop (i + 1) schema → d ≡ cell_becomes (slice_get row i) a.domain
    → done ++ values_of (row_becomes (tuple_of (drop i row)) (heading_of (drop i schema))) ≡ whole
    → (done ++ d ∷ []) ++ values_of (row_becomes (tuple_of (drop (i + 1) row)) (heading_of (drop (i + 1) schema))) ≡ whole
row_converted_more done row schema i a d whole e is h =
    append_assoc done (d ∷ []) _
    ∙ ap (λ xs. done ++ xs) (sym (
    ap (λ s. values_of (row_becomes (tuple_of (drop i row)) (heading_of s))) e
    ∙ step_suc row i a.name a.domain (heading_of (drop (i + 1) schema))
    ∙ ap (λ x. x ∷ values_of (row_becomes (tuple_of (drop (suc i) row)) (heading_of (drop (i + 1) schema)))) (sym is)
    ∙ ap (λ k. d ∷ values_of (row_becomes (tuple_of (drop k row)) (heading_of (drop (i + 1) schema)))) (sym (add-one i))))
    ∙ h

-- a default is of its domain
pub default_is_of : (e : Domain) → IsOf (default_of e) e
default_is_of Domain.integer = search rules
default_is_of Domain.long = search rules
default_is_of Domain.text = (record { utf8 = IsUtf8-nil; no_zero = λ k d p. absurd (omega arith) }, omega arith)
default_is_of Domain.bytes = omega arith
default_is_of (Domain.relation h) = (omega arith, tt)

pub defaults_are_of : (h : Heading) → IsTupleOf (defaults h) h
defaults_are_of no_attributes = tt
defaults_are_of (attribute n e h) = (default_is_of e, defaults_are_of h)

pub rows_become_count : (r : Relation) (h : Heading) → length (rows_of (rows_become r h)) ≡ length (rows_of r)
rows_become_count no_tuples h = refl
rows_become_count (tuple t rest) h = let e = rows_become_count rest h in omega (arith, e)

-- what a literal that fits and is short becomes is of the domain
mutual
  pub becomes_of : (d : Datum) (e : Domain) → IsProper d → LiteralFits d e → IsShort d → IsOf (becomes d e) e
  becomes_of (integer z) Domain.integer p f s = absurd f
  becomes_of (integer z) Domain.long p f s = absurd f
  becomes_of (integer z) Domain.text p f s = absurd f
  becomes_of (integer z) Domain.bytes p f s = absurd f
  becomes_of (integer z) (Domain.relation h) p f s = absurd f
  becomes_of (long z) Domain.integer p f s = f
  becomes_of (long z) Domain.long p f s = p
  becomes_of (text content) Domain.text p f s = (p, s)
  becomes_of (bytes content) Domain.bytes p f s = s
  becomes_of (relation r) (Domain.relation h) p f s = (let n = rows_become_count r h in let few = s.0 in omega (arith, n, few), rows_become_of r h p f s.1)
  becomes_of _ _ p f s = absurd f

  pub row_becomes_of : (t : Tuple) (h : Heading) → IsProperRow t → LiteralRowFits t h → IsShortRow t → IsTupleOf (row_becomes t h) h
  row_becomes_of no_values h p f s = defaults_are_of h
  row_becomes_of (value d rest) (attribute n e h) p f s = (becomes_of d e p.0 f.0 s.0, row_becomes_of rest h p.1 f.1 s.1)
  row_becomes_of (value d rest) no_attributes p f s = absurd f

  pub rows_become_of : (r : Relation) (h : Heading) → AreProper r → LiteralsFit r h → AreShort r → AreTuplesOf (rows_become r h) h
  rows_become_of no_tuples h p f s = tt
  rows_become_of (tuple t rest) h p f s = (row_becomes_of t h p.0 f.0 s.0, rows_become_of rest h p.1 f.1 s.1)

-- the forms of rows that a conversion makes
pub tuple_of-values_of : (t : Tuple) → tuple_of (values_of t) ≡ t
tuple_of-values_of no_values = refl
tuple_of-values_of (value d rest) = ap (λ r. value d r) (tuple_of-values_of rest)

pub relation_of-rows_of : (r : Relation) → relation_of (rows_of r) ≡ r
relation_of-rows_of no_tuples = refl
relation_of-rows_of (tuple t rest) = ap (λ u. tuple u (relation_of (rows_of rest))) (tuple_of-values_of t) ∙ ap (λ r. tuple t r) (relation_of-rows_of rest)

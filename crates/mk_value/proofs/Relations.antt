-- Rows as lists and as plain data: each form gives back the other, fits where the other fits, and what is inside is smaller.
use Rattle.std.proofs.Common.{◌≡◌, ◌↔◌, ℕ, zero, suc, ◌+◌, ◌<◌, ◌≤◌, List, [], ◌∷◌, length, get_or, drop, All, refl, ap, sym, ◌∙◌, arith}
use Rattle.std.proofs.lemmas.List.Elements.{All-cons, All-head, All-tail}
use Rattle.mk_value.specs.Heading.{Domain, Attribute, heading_of}
use Rattle.mk_value.specs.Data.{Datum, values_of, tuple_of, rows_of, relation_of, IsOf, IsTupleOf, AreTuplesOf, IsRowOf, AreRowsOf, datum_weight, tuple_weight, relation_weight, row_weight, rows_weight}

pub values_of-tuple_of : (row : List Datum) → values_of (tuple_of row) ≡ row
values_of-tuple_of [] = refl
values_of-tuple_of (d ∷ rest) = ap (λ ds. d ∷ ds) (values_of-tuple_of rest)

pub rows_of-relation_of : (rows : List (List Datum)) → rows_of (relation_of rows) ≡ rows
rows_of-relation_of [] = refl
rows_of-relation_of (row ∷ rest) =
    ap (λ r. r ∷ rows_of (relation_of rest)) (values_of-tuple_of row) ∙ ap (λ rs. row ∷ rs) (rows_of-relation_of rest)

-- two relations are the same where their rows are
pub relation_of-injective : (p q : List (List Datum)) → relation_of p ≡ relation_of q → p ≡ q
relation_of-injective p q e = sym (rows_of-relation_of p) ∙ ap rows_of e ∙ rows_of-relation_of q

pub tuple_fits : (row : List Datum) (schema : List Attribute) → IsRowOf row schema → IsTupleOf (tuple_of row) (heading_of schema)
tuple_fits [] [] h = tt
tuple_fits [] (a ∷ as') h = h
tuple_fits (d ∷ ds) [] h = h
tuple_fits (d ∷ ds) (a ∷ as') h = (h.0, tuple_fits ds as' h.1)

pub row_fits : (row : List Datum) (schema : List Attribute) → IsTupleOf (tuple_of row) (heading_of schema) → IsRowOf row schema
row_fits [] [] h = tt
row_fits [] (a ∷ as') h = h
row_fits (d ∷ ds) [] h = h
row_fits (d ∷ ds) (a ∷ as') h = (h.0, row_fits ds as' h.1)

pub tuples_fit : (rows : List (List Datum)) (schema : List Attribute) → All (λ row. IsRowOf row schema) rows → AreTuplesOf (relation_of rows) (heading_of schema)
tuples_fit [] schema h = tt
tuples_fit (row ∷ rest) schema h =
    (tuple_fits row schema (All-head (λ r. IsRowOf r schema) row rest h), tuples_fit rest schema (All-tail (λ r. IsRowOf r schema) row rest h))

pub rows_fit : (rows : List (List Datum)) (schema : List Attribute) → AreTuplesOf (relation_of rows) (heading_of schema) → All (λ row. IsRowOf row schema) rows
rows_fit [] schema h = λ k d p. absurd (omega arith)
rows_fit (row ∷ rest) schema h =
    All-cons (λ r. IsRowOf r schema) row rest (row_fits row schema h.0) (rows_fit rest schema h.1)

-- a view of a schema is one whose rows are the schema's
pub IsOf-relation : (rows : List (List Datum)) (schema : List Attribute) → AreRowsOf rows schema ↔ IsOf (Datum.relation (relation_of rows)) (Domain.relation (heading_of schema))
IsOf-relation rows schema = (
  λ h. (let e = ap length (rows_of-relation_of rows) in let few = h.few in omega (arith, few), tuples_fit rows schema h.whole),
  λ h. record { few = let e = ap length (rows_of-relation_of rows) in let few = h.0 in omega (arith, few); whole = rows_fit rows schema h.1 },
)

-- a value weighs less than its row, and a row less than its view
pub row_weight_read : (row : List Datum) (i : ℕ) (x : Datum) → i < length row → x ≡ get_or row i x → datum_weight x + 1 ≤ row_weight row
row_weight_read [] i x p e = absurd (omega arith)
row_weight_read (d ∷ ds) zero x p e = let w = ap datum_weight e in omega (arith, w)
row_weight_read (d ∷ ds) (suc i) x p e = omega (arith, row_weight_read ds i x (omega arith) e)

pub rows_weight_read : (rows : List (List Datum)) (i : ℕ) (x : List Datum) → i < length rows → x ≡ get_or rows i x → row_weight x + 1 ≤ rows_weight rows
rows_weight_read [] i x p e = absurd (omega arith)
rows_weight_read (r ∷ rs) zero x p e = let w = ap row_weight e in omega (arith, w)
rows_weight_read (r ∷ rs) (suc i) x p e = omega (arith, rows_weight_read rs i x (omega arith) e)

-- One value further in a row, and one row further in a view: all fit where the one does and those to come do.
pub row_fits_more : (row : List Datum) (schema : List Attribute) (i : ℕ) (x : Datum) (a : Attribute) → drop i row ≡ x ∷ drop (i + 1) row → drop i schema ≡ a ∷ drop (i + 1) schema → IsOf x a.domain
    → (IsRowOf row schema ↔ IsRowOf (drop i row) (drop i schema)) → (IsRowOf row schema ↔ IsRowOf (drop (i + 1) row) (drop (i + 1) schema))
row_fits_more row schema i x a e f h rest =
    let more = rw (e, f) at rest in
    (λ p. (more.0 p).1, λ p. more.1 (h, p))

pub row_fits_no : (row : List Datum) (schema : List Attribute) (i : ℕ) (x : Datum) (a : Attribute) → drop i row ≡ x ∷ drop (i + 1) row → drop i schema ≡ a ∷ drop (i + 1) schema → (IsOf x a.domain → ⊥)
    → (IsRowOf row schema ↔ IsRowOf (drop i row) (drop i schema)) → IsRowOf row schema → ⊥
row_fits_no row schema i x a e f h rest p =
    let more = rw (e, f) at rest in h (more.0 p).0

pub rows_fit_more : (schema : List Attribute) (rows : List (List Datum)) (i : ℕ) (row : List Datum) → drop i rows ≡ row ∷ drop (i + 1) rows → IsRowOf row schema
    → (All (λ r. IsRowOf r schema) rows ↔ All (λ r. IsRowOf r schema) (drop i rows)) → (All (λ r. IsRowOf r schema) rows ↔ All (λ r. IsRowOf r schema) (drop (i + 1) rows))
rows_fit_more schema rows i row e h rest =
    let more = rw e at rest in (
      λ p. All-tail (λ r. IsRowOf r schema) row (drop (i + 1) rows) (more.0 p),
      λ p. more.1 (All-cons (λ r. IsRowOf r schema) row (drop (i + 1) rows) h p),
    )

pub row_fits_length : (row : List Datum) (schema : List Attribute) → IsRowOf row schema → length row ≡ length schema
row_fits_length [] [] h = refl
row_fits_length [] (a ∷ as') h = absurd h
row_fits_length (d ∷ ds) [] h = absurd h
row_fits_length (d ∷ ds) (a ∷ as') h = let e = row_fits_length ds as' h.1 in omega (arith, e)

pub tuple_weight-tuple_of : (ds : List Datum) → tuple_weight (tuple_of ds) ≡ row_weight ds
tuple_weight-tuple_of [] = refl
tuple_weight-tuple_of (d ∷ rest) = let e = tuple_weight-tuple_of rest in omega (arith, e)

pub relation_weight-relation_of : (rs : List (List Datum)) → relation_weight (relation_of rs) ≡ rows_weight rs
relation_weight-relation_of [] = refl
relation_weight-relation_of (r ∷ rest) =
    let first = tuple_weight-tuple_of r in
    let others = relation_weight-relation_of rest in
    omega (arith, first, others)

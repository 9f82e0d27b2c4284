-- The homes of a table column by column, and those of a view column row by row.
use Rattle.std.proofs.Common.{◌≡◌, ℕ, zero, suc, ◌+◌, ◌<◌, List, [], ◌∷◌, length, get_or, refl, ap, subst, ◌∙◌, arith}
use Rattle.mk_value.specs.Heading.{Attribute, heading_of}
use Rattle.mk_value.specs.Data.{Datum}
use Rattle.mk_value.specs.Tables.{domain_at}
use Rattle.tables.specs.Homes.{Home, no_home, ColumnHomes, no_columns, column, columns_of, column_homes, RowHomes, no_rows, row, each_of, row_homes, column_of}
use Rattle.tables.specs.Rests.{homed_in, homed_from, Rest}
use Rattle.tables.specs.Shapes.{IsHomeOf, AreHomesOf}
use Rattle.tables.proofs.Apart.{Rest-append}
use Rattle.tables.proofs.Resting.{Rest-none}

pub column_homes-columns_of : (homes : ColumnHomes) → column_homes (columns_of homes) ≡ homes
column_homes-columns_of no_columns = refl
column_homes-columns_of (column h rest) = ap (λ hs. column h hs) (column_homes-columns_of rest)

pub row_homes-each_of : (rows : RowHomes) → row_homes (each_of rows) ≡ rows
row_homes-each_of no_rows = refl
row_homes-each_of (row hs rest) =
    ap (λ h. row h (row_homes (each_of rest))) (column_homes-columns_of hs) ∙ ap (λ rs. row hs rs) (row_homes-each_of rest)

-- the homes of a table with these rows have its shape, column by column from the place k on
pub record HaveShape (homes : List Home) (schema : List Attribute) (k : ℕ) (rows : List (List Datum)) : Type 0 where
  pub long : length homes ≡ length schema
  pub each : (m : ℕ) → m < length schema → IsHomeOf (get_or homes m no_home) (domain_at schema m) (column_of rows (k + m))

pub shape_each : (homes : List Home) (schema : List Attribute) (k : ℕ) (rows : List (List Datum)) → AreHomesOf (column_homes homes) (heading_of schema) k rows → HaveShape homes schema k rows
shape_each [] [] k rows h = record { long = refl; each = λ m p. absurd (omega arith) }
shape_each [] (a ∷ schema) k rows h = absurd h
shape_each (x ∷ homes) [] k rows h = absurd h
shape_each (x ∷ homes) (a ∷ schema) k rows h =
    let others = shape_each homes schema (k + 1) rows h.1 in
    record { long = let e = others.long in omega (arith, e); each = at_place others }
  where
    at_place : HaveShape homes schema (k + 1) rows → (m : ℕ) → m < length (a ∷ schema) → IsHomeOf (get_or (x ∷ homes) m no_home) (domain_at (a ∷ schema) m) (column_of rows (k + m))
    at_place others zero p = subst (λ j. IsHomeOf x a.domain (column_of rows j)) (let e : k ≡ k + 0 = omega arith in e) h.0
    at_place others (suc m) p =
        subst (λ j. IsHomeOf (get_or homes m no_home) (domain_at schema m) (column_of rows j)) (let e : (k + 1) + m ≡ k + suc m = omega arith in e)
        (others.each m (omega arith))

pub each_shape : (homes : List Home) (schema : List Attribute) (k : ℕ) (rows : List (List Datum)) → HaveShape homes schema k rows → AreHomesOf (column_homes homes) (heading_of schema) k rows
each_shape [] [] k rows h = tt
each_shape [] (a ∷ schema) k rows h = let e = h.long in absurd (omega (arith, e))
each_shape (x ∷ homes) [] k rows h = let e = h.long in absurd (omega (arith, e))
each_shape (x ∷ homes) (a ∷ schema) k rows h = (
  subst (λ j. IsHomeOf x a.domain (column_of rows j)) (let e : k + 0 ≡ k = omega arith in e) (h.each zero (omega arith)),
  each_shape homes schema (k + 1) rows
      (record {
        long = let e = h.long in omega (arith, e);
        each = λ m p. subst (λ j. IsHomeOf (get_or homes m no_home) (domain_at schema m) (column_of rows j)) (let e : k + suc m ≡ (k + 1) + m = omega arith in e) (h.each (suc m) (omega arith));
      }),
)

-- tables of one schema rest on one another where each column does
pub columns_rest : (new old : List Home) (schema : List Attribute) (k : ℕ) (rows before : List (List Datum)) → length new ≡ length old
    → ((m : ℕ) → m < length old → Rest (homed_in (get_or new m no_home) (domain_at schema (k + m)) (column_of rows (k + m))) (homed_in (get_or old m no_home) (domain_at schema (k + m)) (column_of before (k + m))))
    → Rest (homed_from (column_homes new) schema k rows) (homed_from (column_homes old) schema k before)
columns_rest [] [] schema k rows before e each = Rest-none [] [] refl
columns_rest [] (y ∷ old) schema k rows before e each = absurd (omega (arith, e))
columns_rest (x ∷ new) [] schema k rows before e each = absurd (omega (arith, e))
columns_rest (x ∷ new) (y ∷ old) schema k rows before e each =
    Rest-append (homed_in x (domain_at schema k) (column_of rows k)) (homed_from (column_homes new) schema (k + 1) rows)
    (homed_in y (domain_at schema k) (column_of before k)) (homed_from (column_homes old) schema (k + 1) before)
    (subst (λ j. Rest (homed_in x (domain_at schema j) (column_of rows j)) (homed_in y (domain_at schema j) (column_of before j))) (let e : k + 0 ≡ k = omega arith in e) (each zero (omega arith)))
    (columns_rest new old schema (k + 1) rows before (omega (arith, e))
    (λ m p. subst (λ j. Rest (homed_in (get_or new m no_home) (domain_at schema j) (column_of rows j)) (homed_in (get_or old m no_home) (domain_at schema j) (column_of before j)))
    (let e : k + suc m ≡ (k + 1) + m = omega arith in e) (each (suc m) (omega arith))))

-- What has no homes rests on everything.
use Rattle.std.proofs.Common.{◌≡◌, ℕ, ◌+◌, List, [], ◌∷◌, ◌++◌, drop, map, refl, ap, sym, subst, ◌∙◌, arith}
use Rattle.std.specs.Prelude.{Contains}
use Rattle.std.proofs.lemmas.List.Elements.{All-nil}
use Rattle.mk_value.specs.Heading.{Domain, Heading, no_attributes, attribute, Attribute, heading_of}
use Rattle.mk_value.specs.Data.{Datum}
use Rattle.tables.specs.Homes.{PlainColumn, Home, column_homes, row_homes, column_of, rows_in, empty_home, empty_homes_from}
use Rattle.tables.specs.Tables.{StoredTable, HasNoHomes}
use Rattle.tables.specs.Rests.{homed_in, homed_rows, homed_from, homed_columns, Rest}

homed_rows-none : (f : Datum → List Home) → ((d : Datum) (schema : List Attribute) (k : ℕ) (rows : List (List Datum)) → homed_from (column_homes (f d)) schema k rows ≡ [])
    → (values : List Datum) (e : Domain) (column : List Datum) → homed_rows (row_homes (map f values)) e column ≡ []
homed_rows-none f none [] e column = refl
homed_rows-none f none (d ∷ values) e column =
    ap (λ cs. cs ++ homed_rows (row_homes (map f values)) e (drop 1 column)) (none d _ 0 _) ∙ homed_rows-none f none values e (drop 1 column)

mutual
  pub homed_in-empty : (d : Domain) (values : List Datum) (e : Domain) (column : List Datum) → homed_in (empty_home d values) e column ≡ []
  homed_in-empty Domain.integer values e column = refl
  homed_in-empty Domain.long values e column = refl
  homed_in-empty Domain.text values e column = refl
  homed_in-empty Domain.bytes values e column = refl
  homed_in-empty (Domain.relation h) values e column =
      homed_rows-none (λ d. empty_homes_from h 0 (rows_in d)) (λ d schema k rows. homed_from-empty h 0 (rows_in d) schema k rows) values e column

  pub homed_from-empty : (h : Heading) (j : ℕ) (old : List (List Datum)) (schema : List Attribute) (k : ℕ) (rows : List (List Datum)) → homed_from (column_homes (empty_homes_from h j old)) schema k rows ≡ []
  homed_from-empty no_attributes j old schema k rows = refl
  homed_from-empty (attribute n d rest) j old schema k rows =
      ap (λ cs. cs ++ homed_from (column_homes (empty_homes_from rest (j + 1) old)) schema (k + 1) rows) (homed_in-empty d (column_of old j) _ _)
      ∙ homed_from-empty rest (j + 1) old schema (k + 1) rows

pub homed_columns-empty : (t : StoredTable) → HasNoHomes t → homed_columns t ≡ []
homed_columns-empty t e = ap homed_columns e ∙ homed_from-empty (heading_of t.schema) 0 t.rows t.schema 0 t.rows

no_columns_rest : (old : List PlainColumn) → Rest [] old
no_columns_rest old = record { kept = All-nil (Contains old); apart = λ _. λ i j d p q. absurd (omega arith) }

pub Rest-none : (new old : List PlainColumn) → new ≡ [] → Rest new old
Rest-none new old e = subst (λ cs. Rest cs old) (sym e) (no_columns_rest old)

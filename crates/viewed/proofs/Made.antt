-- The tables that are made.
use Rattle.std.proofs.Common.{◌≡◌, ◌≢◌, ℕ, ◌+◌, ◌<◌, ◌≤◌, ℤ, true, false, not, List, [], ◌∷◌, ◌++◌, length, get_or, map, All, refl, ap, sym, subst, ◌∙◌, arith}
use Rattle.std.specs.Prelude.{FitsSigned}
use Rattle.std.specs.Int.{w64}
use Rattle.std.specs.List.{filter}
use Rattle.std.specs.Cmp.Lexicographic.{nat_list_eq_equiv}
use Rattle.std.proofs.lemmas.Bool.{false≢true}
use Rattle.std.proofs.lemmas.List.{length-append, length-map, get_or-map}
use Rattle.std.proofs.lemmas.List.Folds.{list_any_at}
use Rattle.std.proofs.lemmas.List.Quantifiers.{all_pairs_push}
use Rattle.mk_value.specs.Names.{same_bytes}
use Rattle.mk_value.specs.Limits.{max_properties}
use Rattle.mk_value.specs.Heading.{Domain, Attribute, heading_of, heading_depth, domain_depth, IsHeading, IsWithinLimits}
use Rattle.mk_value.specs.Data.{Datum, long, AreRowsOf, IsRowOf, IsOf}
use Rattle.mk_value.specs.Tables.{Table}
use Rattle.derived.specs.Viewing.{calc, keep}
use Rattle.derived.specs.Refusals.{is_zero}
use Rattle.relations.specs.Columns.{column_of}
use Rattle.relations.specs.Rows.{has, is_named}
use Rattle.viewed.specs.Asking.{answered, asked, is_kept}
use Rattle.viewed.proofs.Arguments.{values_are}

-- a schema with a property behind it that nests nothing and whose name it has not
depth_behind : (schema : List Attribute) (last : Attribute) → domain_depth last.domain ≡ 0 → heading_depth (heading_of (schema ++ last ∷ [])) ≡ heading_depth (heading_of schema)
depth_behind [] last flat = omega arith
depth_behind (a ∷ schema) last flat = let e = depth_behind schema last flat in omega arith

pub limits_with : (schema : List Attribute) (new : List ℕ) → IsHeading schema → has schema new ≡ false → length schema + 1 ≤ max_properties → IsWithinLimits (schema ++ record { name = new; domain = Domain.long } ∷ [])
limits_with schema new whole other few =
    let last : Attribute = record { name = new; domain = Domain.long } in
    let wide = length-append schema (last ∷ []) in
    let deep = depth_behind schema last refl in
    let shallow = whole.limits.shallow in
    record {
      some = omega arith;
      few = omega arith;
      shallow = omega arith;
      distinct = all_pairs_push (λ (a b : Attribute). a.name ≢ b.name) schema last whole.limits.distinct (λ k d p e.
          false≢true (sym other ∙ list_any_at (is_named new) schema k d p (ap (λ n. same_bytes n new) e ∙ nat_list_eq_equiv.refl new)));
    }

-- rows with a number behind each are rows of that schema
row_with : (row : List Datum) (schema : List Attribute) (d : Datum) (last : Attribute) → IsRowOf row schema → IsOf d last.domain → IsRowOf (row ++ d ∷ []) (schema ++ last ∷ [])
row_with [] [] d last whole fits = (fits, tt)
row_with [] (a ∷ schema) d last whole fits = absurd whole
row_with (x ∷ row) [] d last whole fits = absurd whole
row_with (x ∷ row) (a ∷ schema) d last whole fits = (whole.0, row_with row schema d last whole.1 fits)

pub rows_with : (rows : List (List Datum)) (schema : List Attribute) (new : List ℕ) (gives : List Datum → ℤ) (columns : List ℕ) → AreRowsOf rows schema → All (λ row. FitsSigned w64 (asked gives columns row)) rows
    → AreRowsOf (map (answered gives columns) rows) (schema ++ record { name = new; domain = Domain.long } ∷ [])
rows_with rows schema new gives columns whole fits =
    let last : Attribute = record { name = new; domain = Domain.long } in
    let count = length-map rows (answered gives columns) in
    record {
      few = let all = whole.few in omega arith;
      whole = λ k d p.
          let q : k < length rows = omega arith in
          subst (λ row. IsRowOf row (schema ++ last ∷ [])) (sym (get_or-map (answered gives columns) rows k [] d q))
          (row_with (get_or rows k []) schema (long (asked gives columns (get_or rows k []))) last (whole.whole k [] q) (fits k [] q));
    }

-- the tables of the operators
pub calculated : (t : Table) (gives : List Datum → ℤ) (args : List (List ℕ)) (new : List ℕ) (columns : List ℕ) (schema : List Attribute) (rows : List (List Datum)) → All (λ name. has t.schema name ≡ true) args
    → columns ≡ map (column_of t.schema) args → schema ≡ t.schema ++ record { name = new; domain = Domain.long } ∷ [] → rows ≡ map (answered gives columns) t.rows → record { schema = schema; rows = rows } ≡ calc gives args new t
calculated t gives args new columns schema rows all e f g =
    let h = g ∙ ap (λ (v : List Datum → List Datum). map (λ row. row ++ long (gives (v row)) ∷ []) t.rows) (values_are t.schema args columns all e) in
    λ i. record { schema = f i; rows = h i }

pub kept_rows : (t : Table) (gives : List Datum → ℤ) (args : List (List ℕ)) (columns : List ℕ) → All (λ name. has t.schema name ≡ true) args → columns ≡ map (column_of t.schema) args
    → filter (is_kept gives columns) t.rows ≡ (keep gives args t).rows
kept_rows t gives args columns all e = ap (λ (v : List Datum → List Datum). filter (λ row. not (is_zero (gives (v row)))) t.rows) (values_are t.schema args columns all e)

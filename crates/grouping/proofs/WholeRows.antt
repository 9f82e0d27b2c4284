-- The rows of a table by all their values.
use Rattle.std.proofs.Common.{◌≡◌, ℕ, zero, suc, ◌<◌, ◌==◌, pos, Bool, true, false, ◌||◌, not, if◌then◌else◌, List, [], ◌∷◌, length, get_or, map, All, refl, ap, sym, subst, ◌∙◌, arith}
use Rattle.std.specs.List.{list_any}
use Rattle.std.proofs.lemmas.List.{ext_get_or, length-map, get_or-map, take_all}
use Rattle.std.proofs.Math.Dec.{eqb-suc-zero}
use Rattle.mk_value.specs.Data.{AreRowsOf, Datum, integer}
use Rattle.mk_value.specs.Heading.{Attribute}
use Rattle.mk_value.specs.Tables.{domain_at}
use Rattle.mk_value.proofs.Relations.{row_fits_length}
use Rattle.relations.specs.Columns.{values_at}
use Rattle.relations.specs.Equality.{is_row_among, same_row}
use Rattle.relations.specs.Fitting.{is_view}
use Rattle.relations.specs.Keys.{IsPlainColumn}
use Rattle.relations.specs.Positions.{numbers}
use Rattle.relations.proofs.Numbers.{all_places, length-numbers, numbers_at}
use Rattle.grouping.specs.Index.{positions_of}
use Rattle.grouping.specs.WholeRows.{is_plain}

pub all_values : (row : List Datum) (n : ℕ) → length row ≡ n → values_at (numbers n) row ≡ row
all_values row n e = all_places row (integer (pos 0)) n (omega (arith, e)) ∙ take_all n row (omega (arith, e))

-- columns that are no views
both_false : (x y : Bool) → (x || y) ≡ false → (x ≡ false) × (y ≡ false)
both_false true y h = absurd (let none : ◌≡◌ {A = Bool} true false = h in cc)
both_false false y h = (refl, h)

no_view_at : (schema : List Attribute) (k : ℕ) → list_any (λ (a : Attribute). is_view a.domain) schema ≡ false → k < length schema → is_view (domain_at schema k) ≡ false
no_view_at [] k h p = absurd (omega arith)
no_view_at (a ∷ schema) zero h p = (both_false (is_view a.domain) (list_any (λ (b : Attribute). is_view b.domain) schema) h).0
no_view_at (a ∷ schema) (suc k) h p = no_view_at schema k (both_false (is_view a.domain) (list_any (λ (b : Attribute). is_view b.domain) schema) h).1 (omega arith)

turned : (b : Bool) → not b ≡ true → b ≡ false
turned true h = absurd (let none : ◌≡◌ {A = Bool} false true = h in cc)
turned false h = refl

pub plain_columns : (schema : List Attribute) → is_plain schema ≡ true → All (IsPlainColumn schema) (numbers (length schema))
plain_columns schema h k d p =
    let n = length-numbers (length schema) in
    let q : k < length schema = omega arith in
    subst (IsPlainColumn schema) (sym (numbers_at (length schema) k d q))
    (record { in_range = q; plain = no_view_at schema k (turned (list_any (λ (a : Attribute). is_view a.domain) schema) h) q })

pub all_rows : (schema : List Attribute) (rows : List (List Datum)) → AreRowsOf rows schema → map (values_at (numbers (length schema))) rows ≡ rows
all_rows schema rows whole =
    ext_get_or [] (map (values_at (numbers (length schema))) rows) rows (length-map rows (values_at (numbers (length schema))))
    (λ i p.
    let n = length-map rows (values_at (numbers (length schema))) in
    let q : i < length rows = omega (arith, n, p) in
    get_or-map (values_at (numbers (length schema))) rows i [] [] q ∙ all_values (get_or rows i []) (length schema) (row_fits_length (get_or rows i []) schema (whole.whole i [] q)))

-- a row is among others exactly where it has a position there
none_behind : (ps : List ℕ) → (length (map suc ps) == 0) ≡ (length ps == 0)
none_behind ps = ap (λ n. n == 0) (length-map ps suc)

by_first : (same among : Bool) (ps : List ℕ) → not (length ps == 0) ≡ among → not (length (if same then 0 ∷ map suc ps else map suc ps) == 0) ≡ (same || among)
by_first true among ps h = ap not (eqb-suc-zero (length (map suc ps)))
by_first false among ps h = ap not (none_behind ps) ∙ h

pub some_position : (rows : List (List Datum)) (row : List Datum) → not (length (positions_of rows row) == 0) ≡ is_row_among rows row
some_position [] row = refl
some_position (first ∷ rest) row = by_first (same_row first row) (is_row_among rest row) (positions_of rest row) (some_position rest row)

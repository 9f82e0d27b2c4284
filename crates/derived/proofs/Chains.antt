-- Positions in positions, columns of columns, and positions below columns.
use Rattle.std.proofs.Common.{◌≡◌, ℕ, ◌<◌, pos, List, [], ◌∷◌, length, get_or, map, All, refl, ap, sym, subst, ◌∙◌, arith}
use Rattle.std.proofs.lemmas.List.{length-map, get_or-map}
use Rattle.std.proofs.lemmas.List.Elements.{All-head, All-tail, All-map, All-weaker}
use Rattle.mk_value.specs.Heading.{Attribute}
use Rattle.mk_value.specs.Data.{Datum, integer}
use Rattle.mk_value.specs.Tables.{Table, domain_at}
use Rattle.relations.specs.Columns.{AreColumns, values_at}
use Rattle.relations.specs.Rows.{rows_at}
use Rattle.derived.specs.Layers.{Layered, table_of}
use Rattle.derived.specs.Operators.{with_rows}
use Rattle.derived.proofs.Cells.{columns_length, domain_columns}

-- the elements at positions of a list that is made element by element
at_map : {X Y : Type 0} (f : X → Y) (xs : List X) (d : X) (e : Y) (positions : List ℕ) → All (λ i. i < length xs) positions → map (λ i. get_or (map f xs) i e) positions ≡ map (λ i. f (get_or xs i d)) positions
at_map f xs d e [] h = refl
at_map f xs d e (i ∷ positions) h =
    let first = get_or-map f xs i d e (All-head (λ i. i < length xs) i positions h) in
    let rest = at_map f xs d e positions (All-tail (λ i. i < length xs) i positions h) in
    cc

map_over : {X Y : Type 0} (f : X → Y) (g : ℕ → X) (positions : List ℕ) → map f (map g positions) ≡ map (λ i. f (g i)) positions
map_over f g [] = refl
map_over f g (i ∷ positions) = ap (λ rest. f (g i) ∷ rest) (map_over f g positions)

pub rows_at_map : (f : List Datum → List Datum) (rows : List (List Datum)) (positions : List ℕ) → All (λ i. i < length rows) positions → rows_at (map f rows) positions ≡ map f (rows_at rows positions)
rows_at_map f rows positions h = at_map f rows [] [] positions h ∙ sym (map_over f (λ i. get_or rows i []) positions)

pub rows_at_rows : (rows : List (List Datum)) (below positions : List ℕ) → All (λ i. i < length below) positions → rows_at (rows_at rows below) positions ≡ rows_at rows (map (λ i. get_or below i 0) positions)
rows_at_rows rows below positions h =
    at_map (λ i. get_or rows i []) below 0 [] positions h ∙ sym (map_over (λ i. get_or rows i []) (λ i. get_or below i 0) positions)

columns_of_row : (below columns : List ℕ) (row : List Datum) → All (λ j. j < length below) columns → values_at columns (values_at below row) ≡ values_at (map (λ j. get_or below j 0) columns) row
columns_of_row below columns row h =
    at_map (λ j. get_or row j (integer (pos 0))) below 0 (integer (pos 0)) columns h ∙ sym (map_over (λ j. get_or row j (integer (pos 0))) (λ j. get_or below j 0) columns)

pub columns_of_columns : (rows : List (List Datum)) (below columns : List ℕ) → All (λ j. j < length below) columns → map (values_at columns) (map (values_at below) rows) ≡ map (values_at (map (λ j. get_or below j 0) columns)) rows
columns_of_columns [] below columns h = refl
columns_of_columns (row ∷ rows) below columns h =
    let first = columns_of_row below columns row h in
    let rest = columns_of_columns rows below columns h in
    cc

kinds_through : (schema middle : List Attribute) (below columns : List ℕ) → AreColumns schema below middle → All (λ j. j < length below) columns → map (λ j. domain_at middle j) columns ≡ map (λ j. domain_at schema j) (map (λ j. get_or below j 0) columns)
kinds_through schema middle below [] h within = refl
kinds_through schema middle below (j ∷ columns) h within =
    let first = domain_columns schema below middle j (get_or below j 0) h (All-head (λ j. j < length below) j columns within) refl in
    let rest = kinds_through schema middle below columns h (All-tail (λ j. j < length below) j columns within) in
    cc

module _ (schema middle properties : List Attribute) (below columns : List ℕ) (lower : AreColumns schema below middle) (upper : AreColumns middle columns properties) where
  pub below_in : All (λ j. j < length below) columns
  below_in = subst (λ n. All (λ j. j < n) columns) (sym (columns_length schema below middle lower)) upper.in_range

  pub columns_through : (composed : List ℕ) → composed ≡ map (λ j. get_or below j 0) columns → AreColumns schema composed properties
  columns_through composed e = subst (λ js. AreColumns schema js properties) (sym e) (record {
    in_range = All-map (λ j. j < length schema) (λ j. get_or below j 0) columns (All-weaker (λ j. j < length below) (λ j. get_or below j 0 < length schema) (λ j p. lower.in_range j 0 p) columns below_in);
    kinds = upper.kinds ∙ kinds_through schema middle below columns lower below_in;
  })

pub same_table : (s t : List Attribute) (js ks : List ℕ) (rows : List (List Datum)) → s ≡ t → js ≡ ks
    → ◌≡◌ {A = Table} (record { schema = s; rows = map (values_at js) rows }) (record { schema = t; rows = map (values_at ks) rows })
same_table s t js ks rows e f = cc

-- rows at positions of a table that has the columns of another: v is what is seen, and d what was read
pub gathered_below : (base v d r : Layered) (columns : List ℕ) (properties : List Attribute) (l : ℕ) (positions : List ℕ) → record { schema = properties; rows = map (values_at columns) base.rows; layers = l } ≡ v
    → d ≡ base → All (λ i. i < length v.rows) positions → table_of r ≡ with_rows (table_of d) (rows_at d.rows positions)
    → ◌≡◌ {A = Table} (record { schema = properties; rows = map (values_at columns) r.rows }) (with_rows (table_of v) (rows_at v.rows positions))
gathered_below base v d r columns properties l positions seen same within made =
    let long = ap (λ (t : Layered). length t.rows) seen in
    let all = length-map base.rows (values_at columns) in
    let many : length v.rows ≡ length base.rows = omega arith in
    let inside : All (λ i. i < length base.rows) positions = subst (λ n. All (λ i. i < n) positions) many within in
    ap (λ (rows : List (List Datum)). record { schema = properties; rows = rows })
    (ap (λ (t : Table). map (values_at columns) t.rows) made ∙ ap (λ (t : Layered). map (values_at columns) (rows_at t.rows positions)) same ∙ sym (rows_at_map (values_at columns) base.rows positions inside))
    ∙ ap (λ (t : Layered). with_rows (table_of t) (rows_at t.rows positions)) seen

-- rows at positions of a table that has rows of another
pub gathered_twice : (base v d : Layered) (below composed : List ℕ) (l : ℕ) (positions : List ℕ) → record { schema = base.schema; rows = rows_at base.rows below; layers = l } ≡ v → d ≡ base
    → All (λ i. i < length v.rows) positions → composed ≡ map (λ i. get_or below i 0) positions
    → ◌≡◌ {A = Table} (with_rows (table_of d) (rows_at d.rows composed)) (with_rows (table_of v) (rows_at v.rows positions))
gathered_twice base v d below composed l positions seen same inside made =
    let long = ap (λ (t : Layered). length t.rows) seen in
    let all = length-map below (λ i. get_or base.rows i []) in
    let many : length v.rows ≡ length below = omega arith in
    let within : All (λ i. i < length below) positions = subst (λ n. All (λ i. i < n) positions) many inside in
    ap (λ (t : Layered). with_rows (table_of t) (rows_at t.rows composed)) same
    ∙ ap (λ (rows : List (List Datum)). record { schema = base.schema; rows = rows }) (ap (rows_at base.rows) made ∙ sym (rows_at_rows base.rows below positions within))
    ∙ ap (λ (t : Layered). with_rows (table_of t) (rows_at t.rows positions)) seen

-- columns of a table that has the columns of another
pub columns_twice : (base v d : Layered) (below columns composed : List ℕ) (middle properties : List Attribute) (l : ℕ) → record { schema = middle; rows = map (values_at below) base.rows; layers = l } ≡ v → d ≡ base
    → All (λ j. j < length below) columns → composed ≡ map (λ j. get_or below j 0) columns
    → ◌≡◌ {A = Table} (record { schema = properties; rows = map (values_at composed) d.rows }) (record { schema = properties; rows = map (values_at columns) v.rows })
columns_twice base v d below columns composed middle properties l seen same within made =
    ap (λ (rows : List (List Datum)). record { schema = properties; rows = rows })
    (ap (λ (t : Layered). map (values_at composed) t.rows) same ∙ ap (λ js. map (values_at js) base.rows) made ∙ sym (columns_of_columns base.rows below columns within)
    ∙ ap (λ (t : Layered). map (values_at columns) t.rows) seen)

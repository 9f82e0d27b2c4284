-- A table is known by its columns, and what an edit makes of a table is known by what it makes of each column.
use Rattle.std.proofs.Common.{◌≡◌, ℕ, zero, suc, ◌+◌, ◌-◌, ◌<◌, ◌≤◌, ◌⊎◌, ⊎_elim, List, [], ◌∷◌, ◌++◌, length, get_or, take, drop, replicate, map, All, pos, refl, ap, sym, subst, ◌∙◌, arith, length-append, length-drop}
use Rattle.std.proofs.lemmas.List.{length-map, length-replicate, length-take-le, get_or-map, get_or_append_left, get_or-append_right, same_lists}
use Rattle.std.proofs.lemmas.Bool.{cases_lt}
use Rattle.std.proofs.lemmas.List.Elements.{All-append, All-take, All-drop, All-replicate}
use Rattle.mk_value.specs.Limits.{max_rows}
use Rattle.mk_value.specs.Heading.{Domain, Attribute, heading_of}
use Rattle.mk_value.specs.Data.{Datum, integer, IsRowOf, AreRowsOf}
use Rattle.mk_value.specs.Tables.{domain_at}
use Rattle.mk_value.proofs.Relations.{row_fits_length}
use Rattle.mk_value.proofs.Walks.{same_default}
use Rattle.tables.specs.Homes.{Home, no_home, column_homes, column_of, empty_home, empty_homes}
use Rattle.tables.specs.Rows.{inserted, removed, home_inserted, homes_inserted, home_removed, with_rows_inserted, with_rows_removed}
use Rattle.tables.specs.Shapes.{AreHomesOf, HasHomes}
use Rattle.tables.specs.Tables.{StoredTable, IsTable, table_without_homes}
use Rattle.tables.specs.Columns.{StoredColumn, no_column, home_of, rows_of_columns, table_of_columns, IsColumnOf, AreColumnsOf, IsColumnWith, AreColumnsIn}
use Rattle.tables.proofs.Lists.{map-inserted, map-removed}
use Rattle.tables.proofs.Homeless.{length-empty_homes_from, get_or-empty}
use Rattle.tables.proofs.Gathering.{length-rows_of_columns, AreRowsOf-columns, columns_from, column_of-columns, same_rows}

-- the rows of a table are as wide as its schema
abbrev AreWide : StoredTable → Type 0
AreWide t = All (λ row. length row ≡ length t.schema) t.rows

wide : (t : StoredTable) → IsTable t → AreWide t
wide t whole = λ i d p. row_fits_length (get_or t.rows i d) t.schema (whole.rows.whole i d p)

-- what is known of a table that is rebuilt from columns
pub record IsRebuilt (t : StoredTable) : Type 0 where
  pub few : length t.rows ≤ max_rows
  pub wide : All (λ row. length row ≡ length t.schema) t.rows
  pub homes : length t.homes ≡ length t.schema

columns_are : (t : StoredTable) (cols : List StoredColumn) → length t.rows ≤ max_rows → AreColumnsIn t cols → AreColumnsOf (length t.rows) t.schema cols
columns_are t cols few h = record {
  few = few;
  each = columns_from (length t.rows) t.schema cols no_column h.paired
      (λ k p. let long = length-map t.rows (λ (row : List Datum). get_or row k (integer (pos 0))) in
      subst (λ n. IsColumnOf n (domain_at t.schema k) (get_or cols k no_column)) long (h.each k p).whole);
}

pub rows_wide : (n : ℕ) (schema : List Attribute) (cols : List StoredColumn) → AreColumnsOf n schema cols → All (λ row. length row ≡ length schema) (rows_of_columns n schema cols)
rows_wide n schema cols h = λ i d p. row_fits_length (get_or (rows_of_columns n schema cols) i d) schema ((AreRowsOf-columns n schema cols h).whole i d p)

-- the columns of a table are the table
pub table_rebuilt : (t : StoredTable) (cols : List StoredColumn) → IsRebuilt t → AreColumnsIn t cols → table_of_columns (length t.rows) t.schema cols ≡ t
table_rebuilt t cols known h =
    let n = length t.rows in
    let are = columns_are t cols known.few h in
    let rows : rows_of_columns n t.schema cols ≡ t.rows =
    same_rows (length t.schema) (rows_of_columns n t.schema cols) t.rows (length-rows_of_columns n t.schema cols) (rows_wide n t.schema cols are) known.wide
    (λ k p. column_of-columns n k t.schema cols no_column are.each p ∙ (h.each k p).holds) in
    let long = length-map cols home_of in
    let paired = h.paired in
    let known_homes = known.homes in
    let homes : map home_of cols ≡ t.homes =
    same_lists (map home_of cols) t.homes (omega (arith, long, paired, known_homes))
    (λ k d p. let q : k < length t.schema = omega (arith, long, paired) in
    get_or-map home_of cols k no_column d (omega (arith, long)) ∙ (h.each k q).home_is ∙ same_default t.homes k no_home d (omega (arith, known_homes))) in
    ap (λ rs. let u : StoredTable = record { schema = t.schema; rows = rs; homes = map home_of cols } in u) rows
    ∙ ap (λ hs. let u : StoredTable = record { schema = t.schema; rows = t.rows; homes = hs } in u) homes

pub columns_rebuilt : (t : StoredTable) (cols : List StoredColumn) → IsRebuilt t → AreColumnsIn t cols → AreColumnsOf (length t.rows) t.schema cols
columns_rebuilt t cols known h = columns_are t cols known.few h

-- the homes of a table are as many as its properties
length-homes : (homes : List Home) (schema : List Attribute) (k : ℕ) (rows : List (List Datum)) → AreHomesOf (column_homes homes) (heading_of schema) k rows → length homes ≡ length schema
length-homes [] [] k rows h = refl
length-homes [] (a ∷ schema) k rows h = absurd h
length-homes (x ∷ homes) [] k rows h = absurd h
length-homes (x ∷ homes) (a ∷ schema) k rows h = let e = length-homes homes schema (k + 1) rows h.1 in omega (arith, e)

pub homes_paired : (t : StoredTable) → HasHomes t → length t.homes ≡ length t.schema
homes_paired t h = length-homes t.homes t.schema 0 t.rows h

pub IsRebuilt-table : (t : StoredTable) → IsTable t → HasHomes t → IsRebuilt t
IsRebuilt-table t whole homes = record { few = whole.rows.few; wide = wide t whole; homes = homes_paired t homes }

-- Rows put in.
pub length-inserted : {X : Type 0} (at n : ℕ) (x : X) (xs : List X) → at ≤ length xs → length (inserted at n x xs) ≡ length xs + n
length-inserted at n x xs p =
    omega (arith, length-append (take at xs) (replicate n x ++ drop at xs), length-append (replicate n x) (drop at xs), length-take-le at xs p, length-replicate n x, length-drop at xs)

pub All-inserted : {X : Type 0} (P : X → Type 0) (at n : ℕ) (x : X) (xs : List X) → All P xs → P x → All P (inserted at n x xs)
All-inserted P at n x xs h here = All-append P (take at xs) (replicate n x ++ drop at xs) (All-take P at xs h) (All-append P (replicate n x) (drop at xs) (All-replicate P n x here) (All-drop P at xs h))

home-inserted : (at n k : ℕ) (schema : List Attribute) (row : List Datum) (homes : List Home) → length row ≡ length schema → length homes ≡ length schema → k < length schema
    → get_or (homes_inserted at n schema row homes) k no_home ≡ home_inserted at n (domain_at schema k) (get_or row k (integer (pos 0))) (get_or homes k no_home)
home-inserted at n k [] row homes e f p = absurd (omega arith)
home-inserted at n k (a ∷ schema) [] homes e f p = absurd (omega arith)
home-inserted at n k (a ∷ schema) (d ∷ row) [] e f p = absurd (omega arith)
home-inserted at n zero (a ∷ schema) (d ∷ row) (h ∷ homes) e f p = refl
home-inserted at n (suc k) (a ∷ schema) (d ∷ row) (h ∷ homes) e f p = home-inserted at n k schema row homes (omega arith) (omega arith) (omega arith)

length-homes_inserted : (at n : ℕ) (schema : List Attribute) (row : List Datum) (homes : List Home) → length row ≡ length schema → length homes ≡ length schema → length (homes_inserted at n schema row homes) ≡ length schema
length-homes_inserted at n [] row homes e f = refl
length-homes_inserted at n (a ∷ schema) [] homes e f = absurd (omega arith)
length-homes_inserted at n (a ∷ schema) (d ∷ row) [] e f = absurd (omega arith)
length-homes_inserted at n (a ∷ schema) (d ∷ row) (h ∷ homes) e f = let g = length-homes_inserted at n schema row homes (omega arith) (omega arith) in omega (arith, g)

pub IsRebuilt-inserted : (t : StoredTable) (at n : ℕ) (row : List Datum) → IsRebuilt t → at ≤ length t.rows → length t.rows + n ≤ max_rows → IsRowOf row t.schema → IsRebuilt (with_rows_inserted at row n t)
IsRebuilt-inserted t at zero row known p few fits = known
IsRebuilt-inserted t at (suc n) row known p few fits =
    let long = row_fits_length row t.schema fits in
    let more = length-inserted at (suc n) row t.rows p in
    record {
      few = omega (arith, more, few);
      wide = All-inserted (λ (r : List Datum). length r ≡ length t.schema) at (suc n) row t.rows known.wide long;
      homes = length-homes_inserted at (suc n) t.schema row t.homes long known.homes;
    }

-- the column at place k after rows were put in
pub column_inserted : (t : StoredTable) (at n k : ℕ) (row : List Datum) (c : StoredColumn) → length t.homes ≡ length t.schema → IsRowOf row t.schema → 0 < n → k < length t.schema
    → IsColumnWith (domain_at t.schema k) (inserted at n (get_or row k (integer (pos 0))) (column_of t.rows k)) (home_inserted at n (domain_at t.schema k) (get_or row k (integer (pos 0))) (get_or t.homes k no_home)) c
    → let u = with_rows_inserted at row n t in IsColumnWith (domain_at u.schema k) (column_of u.rows k) (get_or u.homes k no_home) c
column_inserted t at zero k row c e fits p q h = absurd (omega arith)
column_inserted t at (suc n) k row c e fits p q h =
    let long = row_fits_length row t.schema fits in
    let values = map-inserted (λ (r : List Datum). get_or r k (integer (pos 0))) at (suc n) row t.rows in
    let home = home-inserted at (suc n) k t.schema row t.homes long e q in
    subst (λ x. IsColumnWith (domain_at t.schema k) (column_of (inserted at (suc n) row t.rows) k) x c) (sym home)
    (subst (λ vs. IsColumnWith (domain_at t.schema k) vs (home_inserted at (suc n) (domain_at t.schema k) (get_or row k (integer (pos 0))) (get_or t.homes k no_home)) c) (sym values) h)

-- Rows removed.
pub length-removed : {X : Type 0} (at n : ℕ) (xs : List X) → at + n ≤ length xs → length (removed at n xs) + n ≡ length xs
length-removed at n xs p = omega (arith, length-append (take at xs) (drop (at + n) xs), length-take-le at xs (omega arith), length-drop (at + n) xs)

pub All-removed : {X : Type 0} (P : X → Type 0) (at n : ℕ) (xs : List X) → All P xs → All P (removed at n xs)
All-removed P at n xs h = All-append P (take at xs) (drop (at + n) xs) (All-take P at xs h) (All-drop P (at + n) xs h)

pub IsRebuilt-removed : (t : StoredTable) (at n : ℕ) → IsRebuilt t → at + n ≤ length t.rows → IsRebuilt (with_rows_removed at n t)
IsRebuilt-removed t at zero known p = known
IsRebuilt-removed t at (suc n) known p =
    let less = length-removed at (suc n) t.rows p in
    let few = known.few in
    record {
      few = omega (arith, less, few);
      wide = All-removed (λ (r : List Datum). length r ≡ length t.schema) at (suc n) t.rows known.wide;
      homes = length-map t.homes (home_removed at (suc n)) ∙ known.homes;
    }

-- the column at place k after rows were removed
pub column_removed : (t : StoredTable) (at n k : ℕ) (c : StoredColumn) → length t.homes ≡ length t.schema → 0 < n → k < length t.schema
    → IsColumnWith (domain_at t.schema k) (removed at n (column_of t.rows k)) (home_removed at n (get_or t.homes k no_home)) c
    → let u = with_rows_removed at n t in IsColumnWith (domain_at u.schema k) (column_of u.rows k) (get_or u.homes k no_home) c
column_removed t at zero k c e p q h = absurd (omega arith)
column_removed t at (suc n) k c e p q h =
    let values = map-removed (λ (r : List Datum). get_or r k (integer (pos 0))) at (suc n) t.rows in
    let home : get_or (map (home_removed at (suc n)) t.homes) k no_home ≡ home_removed at (suc n) (get_or t.homes k no_home) =
    get_or-map (home_removed at (suc n)) t.homes k no_home no_home (omega arith) in
    subst (λ x. IsColumnWith (domain_at t.schema k) (column_of (removed at (suc n) t.rows) k) x c) (sym home)
    (subst (λ vs. IsColumnWith (domain_at t.schema k) vs (home_removed at (suc n) (get_or t.homes k no_home)) c) (sym values) h)

-- Rows without homes.
pub IsRebuilt-empty : (schema : List Attribute) (rows : List (List Datum)) → AreRowsOf rows schema → IsRebuilt (table_without_homes schema rows)
IsRebuilt-empty schema rows whole = record {
  few = whole.few;
  wide = λ i d p. row_fits_length (get_or rows i d) schema (whole.whole i d p);
  homes = length-empty_homes_from schema 0 rows;
}

-- the column at place k of rows without homes
pub column_empty : (schema : List Attribute) (rows : List (List Datum)) (k : ℕ) (c : StoredColumn) → k < length schema
    → IsColumnWith (domain_at schema k) (column_of rows k) (empty_home (domain_at schema k) (column_of rows k)) c
    → IsColumnWith (domain_at schema k) (column_of rows k) (get_or (empty_homes schema rows) k no_home) c
column_empty schema rows k c p h =
    subst (λ x. IsColumnWith (domain_at schema k) (column_of rows k) x c) (sym (get_or-empty schema k rows no_home p)) h

cases_below : (k n : ℕ) → (k < n) ⊎ (n ≤ k)
cases_below k n = cases_lt k n

-- The first columns of a table, as a loop makes them one by one.
pub record AreFirstColumns (t : StoredTable) (n : ℕ) (cols : List StoredColumn) : Type 0 where
  pub paired : length cols ≡ n
  pub each : (k : ℕ) → k < n → IsColumnWith (domain_at t.schema k) (column_of t.rows k) (get_or t.homes k no_home) (get_or cols k no_column)

pub no_first_columns : (t : StoredTable) (cols : List StoredColumn) → cols ≡ [] → AreFirstColumns t 0 cols
no_first_columns t cols e = record { paired = ap length e; each = λ k p. absurd (omega arith) }

pub first_columns_more : (t : StoredTable) (n : ℕ) (cols new : List StoredColumn) (c : StoredColumn) → AreFirstColumns t n cols → new ≡ cols ++ c ∷ []
    → IsColumnWith (domain_at t.schema n) (column_of t.rows n) (get_or t.homes n no_home) c → AreFirstColumns t (n + 1) new
first_columns_more t n cols new c h e here =
    let paired = h.paired in
    let With = λ (k : ℕ) (x : StoredColumn). IsColumnWith (domain_at t.schema k) (column_of t.rows k) (get_or t.homes k no_home) x in
    record {
      paired = ap length e ∙ (let more = length-append cols (c ∷ []) in omega (arith, more, paired));
      each = λ k p. ⊎_elim
          (λ (q : k < n). subst (With k) (sym (ap (λ cs. get_or cs k no_column) e ∙ get_or_append_left cols (c ∷ []) no_column k (omega (arith, paired)))) (h.each k q))
          (λ (q : n ≤ k).
          let same : k ≡ n = omega arith in
          let last : get_or (cols ++ c ∷ []) k no_column ≡ c =
          get_or-append_right cols (c ∷ []) n k no_column paired q ∙ ap (λ j. get_or (c ∷ []) j no_column) (let z : k - n ≡ 0 = omega arith in z) in
          subst (With k) (sym (ap (λ cs. get_or cs k no_column) e ∙ last)) (subst (λ j. With j c) (sym same) here))
          (cases_below k n);
    }

pub all_columns : (t : StoredTable) (n : ℕ) (cols : List StoredColumn) → AreFirstColumns t n cols → n ≡ length t.schema → AreColumnsIn t cols
all_columns t n cols h e = record { paired = h.paired ∙ e; each = λ k p. h.each k (omega arith) }

-- The whole edits: rows put in and removed.
schema-inserted : (t : StoredTable) (at n : ℕ) (row : List Datum) → (with_rows_inserted at row n t).schema ≡ t.schema
schema-inserted t at zero row = refl
schema-inserted t at (suc n) row = refl

schema-removed : (t : StoredTable) (at n : ℕ) → (with_rows_removed at n t).schema ≡ t.schema
schema-removed t at zero = refl
schema-removed t at (suc n) = refl

rows-inserted : (t : StoredTable) (at n : ℕ) (row : List Datum) → at ≤ length t.rows → length (with_rows_inserted at row n t).rows ≡ length t.rows + n
rows-inserted t at zero row p = omega arith
rows-inserted t at (suc n) row p = length-inserted at (suc n) row t.rows p

rows-removed : (t : StoredTable) (at n : ℕ) → at + n ≤ length t.rows → length (with_rows_removed at n t).rows + n ≡ length t.rows
rows-removed t at zero p = omega arith
rows-removed t at (suc n) p = length-removed at (suc n) t.rows p

-- columns are those of a table, which they are then
pub record AreRebuilt (n : ℕ) (schema : List Attribute) (cols : List StoredColumn) (t : StoredTable) : Type 0 where
  pub whole : AreColumnsOf n schema cols
  pub table : table_of_columns n schema cols ≡ t

pub rebuilt_as : (t : StoredTable) (n : ℕ) (schema : List Attribute) (cols : List StoredColumn) → IsRebuilt t → AreColumnsIn t cols → length t.rows ≡ n → t.schema ≡ schema → AreRebuilt n schema cols t
rebuilt_as t n schema cols known h e f = record {
  whole = subst (λ m. AreColumnsOf m schema cols) e (subst (λ s. AreColumnsOf (length t.rows) s cols) f (columns_rebuilt t cols known h));
  table = ap (λ m. table_of_columns m schema cols) (sym e) ∙ ap (λ s. table_of_columns (length t.rows) s cols) (sym f) ∙ table_rebuilt t cols known h;
}

pub inserted_done : (t : StoredTable) (at n rows : ℕ) (row : List Datum) (cols : List StoredColumn) → IsTable t → HasHomes t → at ≤ length t.rows → length t.rows + n ≤ max_rows → IsRowOf row t.schema
    → AreColumnsIn (with_rows_inserted at row n t) cols → rows ≡ length t.rows + n → AreRebuilt rows t.schema cols (with_rows_inserted at row n t)
inserted_done t at n rows row cols whole homes p few fits h e =
    rebuilt_as (with_rows_inserted at row n t) rows t.schema cols (IsRebuilt-inserted t at n row (IsRebuilt-table t whole homes) p few fits) h (rows-inserted t at n row p ∙ sym e) (schema-inserted t at n row)

pub removed_done : (t : StoredTable) (at n rows : ℕ) (cols : List StoredColumn) → IsTable t → HasHomes t → at + n ≤ length t.rows
    → AreColumnsIn (with_rows_removed at n t) cols → rows ≡ length t.rows - n → AreRebuilt rows t.schema cols (with_rows_removed at n t)
removed_done t at n rows cols whole homes p h e =
    rebuilt_as (with_rows_removed at n t) rows t.schema cols (IsRebuilt-removed t at n (IsRebuilt-table t whole homes) p) h (let less = rows-removed t at n p in omega (arith, less, e)) (schema-removed t at n)

-- one column more of them
with_moved : (e f : Domain) (values others : List Datum) (home place : Home) (c : StoredColumn) → e ≡ f → values ≡ others → home ≡ place → IsColumnWith e values home c → IsColumnWith f others place c
with_moved e f values others home place c p q r h =
    subst (λ d. IsColumnWith d others place c) p (subst (λ vs. IsColumnWith e vs place c) q (subst (λ x. IsColumnWith e values x c) r h))

pub inserted_more : (t : StoredTable) (at n k : ℕ) (row : List Datum) (cols new : List StoredColumn) (c : StoredColumn) (e : Domain) (values : List Datum) (home : Home) (d : Datum)
    → HasHomes t → IsRowOf row t.schema → 0 < n → k < length t.schema → AreFirstColumns (with_rows_inserted at row n t) k cols → new ≡ cols ++ c ∷ []
    → e ≡ domain_at t.schema k → values ≡ column_of t.rows k → home ≡ get_or t.homes k no_home → d ≡ get_or row k (integer (pos 0))
    → IsColumnWith e (inserted at n d values) (home_inserted at n e d home) c → AreFirstColumns (with_rows_inserted at row n t) (k + 1) new
inserted_more t at n k row cols new c e values home d homes fits p q done more kind holds place value h =
    first_columns_more (with_rows_inserted at row n t) k cols new c done more
    (column_inserted t at n k row c (homes_paired t homes) fits p q
    (with_moved e (domain_at t.schema k) (inserted at n d values) (inserted at n (get_or row k (integer (pos 0))) (column_of t.rows k)) (home_inserted at n e d home)
    (home_inserted at n (domain_at t.schema k) (get_or row k (integer (pos 0))) (get_or t.homes k no_home)) c kind
    (ap (λ x. inserted at n x values) value ∙ ap (λ vs. inserted at n (get_or row k (integer (pos 0))) vs) holds)
    (ap (λ x. home_inserted at n x d home) kind ∙ ap (λ x. home_inserted at n (domain_at t.schema k) x home) value ∙ ap (λ x. home_inserted at n (domain_at t.schema k) (get_or row k (integer (pos 0))) x) place) h))

pub removed_more : (t : StoredTable) (at n k : ℕ) (cols new : List StoredColumn) (c : StoredColumn) (e : Domain) (values : List Datum) (home : Home)
    → HasHomes t → 0 < n → k < length t.schema → AreFirstColumns (with_rows_removed at n t) k cols → new ≡ cols ++ c ∷ []
    → e ≡ domain_at t.schema k → values ≡ column_of t.rows k → home ≡ get_or t.homes k no_home
    → IsColumnWith e (removed at n values) (home_removed at n home) c → AreFirstColumns (with_rows_removed at n t) (k + 1) new
removed_more t at n k cols new c e values home homes p q done more kind holds place h =
    first_columns_more (with_rows_removed at n t) k cols new c done more
    (column_removed t at n k c (homes_paired t homes) p q
    (with_moved e (domain_at t.schema k) (removed at n values) (removed at n (column_of t.rows k)) (home_removed at n home) (home_removed at n (get_or t.homes k no_home)) c kind
    (ap (λ vs. removed at n vs) holds) (ap (λ x. home_removed at n x) place) h))

pub inserted_all : (t : StoredTable) (at n k : ℕ) (row : List Datum) (cols : List StoredColumn) → AreFirstColumns (with_rows_inserted at row n t) k cols → k ≡ length t.schema → AreColumnsIn (with_rows_inserted at row n t) cols
inserted_all t at n k row cols h e = all_columns (with_rows_inserted at row n t) k cols h (e ∙ ap length (sym (schema-inserted t at n row)))

pub removed_all : (t : StoredTable) (at n k : ℕ) (cols : List StoredColumn) → AreFirstColumns (with_rows_removed at n t) k cols → k ≡ length t.schema → AreColumnsIn (with_rows_removed at n t) cols
removed_all t at n k cols h e = all_columns (with_rows_removed at n t) k cols h (e ∙ ap length (sym (schema-removed t at n)))

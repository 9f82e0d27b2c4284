-- A value of a table that is given another: the column that it stands in, and the table.
use Rattle.std.proofs.Common.{◌≡◌, ◌≢◌, ℕ, ◌<◌, ⊎_elim, List, [], length, get_or, set, map, pos, Result, Ok, Err, Some, refl, ap, sym, subst, ◌∙◌, arith}
use Rattle.std.specs.Prelude.{OnOk, OnErr}
use Rattle.std.specs.List.{slice_get}
use Rattle.std.proofs.lemmas.List.{length-map, length-set, get_or-map, get_or-set_same, get_or-set_other, map-set}
use Rattle.std.proofs.lemmas.List.Elements.{All-set}
use Rattle.std.proofs.lemmas.Option.{get_or_from_slice_get, slice_get_within}
use Rattle.mk_value.specs.Heading.{Domain, Heading, Attribute, attributes_of, heading_of}
use Rattle.mk_value.specs.Data.{Datum, integer, relation_of, cell}
use Rattle.mk_value.specs.Tables.{domain_at}
use Rattle.mk_value.proofs.Relations.{rows_of-relation_of}
use Rattle.mk_value.proofs.Walks.{same_default, map_read}
use Rattle.tables.specs.Homes.{Home, no_home, column_of, rows_in}
use Rattle.tables.specs.Tables.{StoredTable, IsTable, home_with, with_value, with_inner, inner_schema, inner_table, homes_in}
use Rattle.tables.specs.Shapes.{HasHomes}
use Rattle.tables.specs.Columns.{StoredColumn, views, no_column, home_of, column_values, table_of_columns, IsTableOf, IsColumnOf, AreColumnsOf, IsColumnWith, AreColumnsIn}
use Rattle.tables.specs.Cells.{HasView, with_view, IsSetIn, IsWholeColumn}
use Rattle.tables.specs.Stored.{stored_of}
use Rattle.tables.specs.declared.cols.Col.{Col}
use Rattle.mk_value.proofs.Headings.{attributes_of-heading_of}
use Rattle.tables.proofs.ColumnWith.{has_view, column_of_views, view_set}
use Rattle.tables.proofs.Lists.{each_of-row_homes}
use Rattle.tables.proofs.Homeless.{same_or_not, column-set, column-set_same}
use Rattle.tables.proofs.Gathering.{length-rows_of_columns, length-columns, length-column_values, column_at, column_of-columns}
use Rattle.tables.proofs.Reading.{view_read, inner_read}
use Rattle.tables.proofs.Rebuilding.{IsRebuilt, AreRebuilt, rows_wide, rebuilt_as}

-- A fact of what a call leaves, by its answer.
pub by_answer : {T E X : Type 0} (P : X → Type 0) (r : Result T E) (new old : X) → OnOk r (P new) → OnErr r (new ≡ old) → P old → P new
by_answer P (Ok x) new old ok err p = ok
by_answer P (Err x) new old ok err p = subst P (sym err) p

pub OnOk-then : {T E P Q : Type 0} (r : Result T E) → OnOk r P → (P → Q) → OnOk r Q
OnOk-then (Ok x) h f = f h
OnOk-then (Err x) h f = tt

-- a column that was read from the columns, and one put in its place
pub col_read : (items : List Col) (cols : List StoredColumn) (k : ℕ) (c : Col) → map stored_of items ≡ cols → k < length cols → c ≡ get_or items k c → stored_of c ≡ get_or cols k no_column
col_read items cols k c kept p read =
    map_read stored_of items k c (omega (arith, ap length kept, length-map items stored_of)) read ∙ ap (λ cs. get_or cs k (stored_of c)) kept ∙ same_default cols k (stored_of c) no_column p

pub cols_set : (items : List Col) (cols : List StoredColumn) (k : ℕ) (c : Col) → map stored_of items ≡ cols → map stored_of (set items k c) ≡ set cols k (stored_of c)
cols_set items cols k c kept = map-set stored_of items k c ∙ ap (λ cs. set cs k (stored_of c)) kept

-- the column of a property is whole, with a value for each row
pub record IsColumnThere (n : ℕ) (e : Domain) (c : StoredColumn) : Type 0 where
  pub whole : IsWholeColumn e c
  pub many : length (column_values e c) ≡ n
  pub column : IsColumnOf n e c

pub column_there : (n k : ℕ) (schema : List Attribute) (cols : List StoredColumn) (e : Domain) → AreColumnsOf n schema cols → k < length schema → domain_at schema k ≡ e → IsColumnThere n e (get_or cols k no_column)
column_there n k schema cols e h p f =
    let column : IsColumnOf n e (get_or cols k no_column) = subst (λ d. IsColumnOf n d (get_or cols k no_column)) f (column_at n k schema cols no_column h.each p) in
    let many = length-column_values n e (get_or cols k no_column) column in
    record { whole = subst (λ m. IsColumnOf m e (get_or cols k no_column)) (sym many) column; many = many; column = column }

pub known_of_columns : (n : ℕ) (schema : List Attribute) (cols : List StoredColumn) → AreColumnsOf n schema cols → IsRebuilt (table_of_columns n schema cols)
known_of_columns n schema cols h =
    let long = length-rows_of_columns n schema cols in
    let few = h.few in
    record { few = omega (arith, long, few); wide = rows_wide n schema cols h; homes = length-map cols home_of ∙ length-columns n schema cols h.each }

known_after : (t : StoredTable) (i k : ℕ) (d : Datum) (homes : List Home) → IsRebuilt t → i < length t.rows → IsRebuilt (with_value t i k d homes)
known_after t i k d homes known p =
    let row = get_or t.rows i [] in
    let long = length-set t.rows i (set row k d) in
    let few = known.few in
    record {
      few = omega (arith, long, few);
      wide = All-set (λ (r : List Datum). length r ≡ length t.schema) t.rows i (set row k d) (length-set row k d ∙ known.wide i [] p) known.wide;
      homes = length-set t.homes k (home_with i homes (get_or t.homes k no_home)) ∙ known.homes;
    }

-- the columns after one of them was set
columns_after : (n i k : ℕ) (schema : List Attribute) (cols new : List StoredColumn) (e : Domain) (d : Datum) (homes : List Home) → AreColumnsOf n schema cols → i < n → k < length schema → e ≡ domain_at schema k
    → IsSetIn cols k e i d homes new → AreColumnsIn (with_value (table_of_columns n schema cols) i k d homes) new
columns_after n i k schema cols new e d homes h p q kind done =
    let t = table_of_columns n schema cols in
    let known = known_of_columns n schema cols h in
    let row = get_or t.rows i [] in
    let paired = length-columns n schema cols h.each in
    let many = length-rows_of_columns n schema cols in
    let in_rows : i < length t.rows = omega (arith, many) in
    let wide : length row ≡ length schema = known.wide i [] in_rows in
    let long_homes = length-map cols home_of in
    let old_home : get_or (map home_of cols) k no_home ≡ home_of (get_or cols k no_column) = get_or-map home_of cols k no_column no_home (omega (arith, paired)) in
    let place = home_with i homes (get_or t.homes k no_home) in
    record {
      paired = ap length done.others ∙ length-set cols k done.column ∙ paired;
      each = λ m r. ⊎_elim
          (λ (same : m ≡ k).
          let values : set (column_values e (get_or cols k no_column)) i d ≡ column_of (set t.rows i (set row k d)) k =
          ap (λ f. set (column_values f (get_or cols k no_column)) i d) kind ∙ ap (λ vs. set vs i d) (sym (column_of-columns n k schema cols no_column h.each q)) ∙ sym (column-set_same t.rows i k d (omega (arith, wide))) in
          let home : home_with i homes (home_of (get_or cols k no_column)) ≡ get_or (set t.homes k place) k no_home =
          ap (λ x. home_with i homes x) (sym old_home) ∙ sym (get_or-set_same t.homes k place no_home (omega (arith, long_homes, paired))) in
          let here : get_or new k no_column ≡ done.column = ap (λ cs. get_or cs k no_column) done.others ∙ get_or-set_same cols k done.column no_column (omega (arith, paired)) in
          let at_k : IsColumnWith (domain_at schema k) (column_of (set t.rows i (set row k d)) k) (get_or (set t.homes k place) k no_home) (get_or new k no_column) =
          subst (λ x. IsColumnWith (domain_at schema k) (column_of (set t.rows i (set row k d)) k) (get_or (set t.homes k place) k no_home) x) (sym here)
          (subst (λ f. IsColumnWith f (column_of (set t.rows i (set row k d)) k) (get_or (set t.homes k place) k no_home) done.column) kind
          (subst (λ vs. IsColumnWith e vs (get_or (set t.homes k place) k no_home) done.column) values
          (subst (λ x. IsColumnWith e (set (column_values e (get_or cols k no_column)) i d) x done.column) home done.set_is))) in
          subst (λ j. IsColumnWith (domain_at schema j) (column_of (set t.rows i (set row k d)) j) (get_or (set t.homes k place) j no_home) (get_or new j no_column)) (sym same) at_k)
          (λ (other : m ≢ k).
          let there = column_there n m schema cols (domain_at schema m) h r refl in
          let values : column_values (domain_at schema m) (get_or cols m no_column) ≡ column_of (set t.rows i (set row k d)) m =
          sym (column_of-columns n m schema cols no_column h.each r) ∙ sym (column-set t.rows i k m d in_rows other) in
          let home : home_of (get_or cols m no_column) ≡ get_or (set t.homes k place) m no_home =
          sym (get_or-map home_of cols m no_column no_home (omega (arith, paired))) ∙ sym (get_or-set_other t.homes k m place no_home other) in
          let here : get_or new m no_column ≡ get_or cols m no_column = ap (λ cs. get_or cs m no_column) done.others ∙ get_or-set_other cols k m done.column no_column other in
          subst (λ x. IsColumnWith (domain_at schema m) (column_of (set t.rows i (set row k d)) m) (get_or (set t.homes k place) m no_home) x) (sym here)
          (record { whole = subst (λ vs. IsColumnOf (length vs) (domain_at schema m) (get_or cols m no_column)) values there.whole; holds = values; home_is = home }))
          (same_or_not m k);
    }

-- the table after one of its columns was set
pub set_done : (n i k : ℕ) (schema : List Attribute) (cols new : List StoredColumn) (t : StoredTable) (e : Domain) (d : Datum) (homes : List Home) → table_of_columns n schema cols ≡ t → AreColumnsOf n schema cols
    → i < length t.rows → k < length t.schema → e ≡ domain_at schema k → IsSetIn cols k e i d homes new → AreRebuilt n schema new (with_value t i k d homes)
set_done n i k schema cols new t e d homes view h p q kind done =
    let u = table_of_columns n schema cols in
    let many = length-rows_of_columns n schema cols in
    let rows = ap (λ (x : StoredTable). length x.rows) view in
    let width = ap (λ (x : StoredTable). length x.schema) view in
    let in_rows : i < n = omega (arith, many, rows) in
    let in_schema : k < length schema = omega (arith, width) in
    let known = known_of_columns n schema cols h in
    let long = length-set u.rows i (set (get_or u.rows i []) k d) in
    let rebuilt = rebuilt_as (with_value u i k d homes) n schema new (known_after u i k d homes known (omega (arith, many))) (columns_after n i k schema cols new e d homes h in_rows in_schema kind done) (long ∙ many) refl in
    subst (λ x. AreRebuilt n schema new (with_value x i k d homes)) view rebuilt

-- the table in a cell
pub inner_is : (t : StoredTable) (n i k : ℕ) (e : Domain) (col : StoredColumn) (ts : List StoredTable) (x : StoredTable) → i < length t.rows → column_values e col ≡ column_of t.rows k → IsColumnOf n e col → e ≡ domain_at t.schema k
    → home_of col ≡ get_or t.homes k no_home → col ≡ views ts → slice_get ts i ≡ Some x → x ≡ inner_table t i k
inner_is t n i k Domain.integer col ts x p values whole kind home is read = absurd (subst (λ c. IsColumnOf n Domain.integer c) is whole)
inner_is t n i k Domain.long col ts x p values whole kind home is read = absurd (subst (λ c. IsColumnOf n Domain.long c) is whole)
inner_is t n i k Domain.text col ts x p values whole kind home is read = absurd (subst (λ c. IsColumnOf n Domain.text c) is whole)
inner_is t n i k Domain.bytes col ts x p values whole kind home is read = absurd (subst (λ c. IsColumnOf n Domain.bytes c) is whole)
inner_is t n i k (Domain.relation h) col ts x p values whole kind home is read =
    let inner = inner_read n h col ts i x whole is read in
    let schema : x.schema ≡ inner_schema (domain_at t.schema k) = inner.same_schema ∙ ap inner_schema kind in
    let here : cell t.rows i k ≡ Datum.relation (relation_of x.rows) =
    sym (get_or-map (λ (row : List Datum). get_or row k (integer (pos 0))) t.rows i [] (integer (pos 0)) p) ∙ ap (λ vs. get_or vs i (integer (pos 0))) (sym values) ∙ view_read h col ts i x is read in
    let rows : x.rows ≡ rows_in (cell t.rows i k) = sym (ap rows_in here ∙ rows_of-relation_of x.rows) in
    let within = slice_get_within ts i x read in
    let homes_of = λ (u : StoredTable). u.homes in
    let homes : x.homes ≡ homes_in (get_or t.homes k no_home) i =
    ap homes_of (sym (get_or_from_slice_get ts i x x read)) ∙ sym (get_or-map homes_of ts i x [] within) ∙ ap (λ hs. get_or hs i []) (sym (each_of-row_homes (map homes_of ts)))
    ∙ ap (λ g. homes_in g i) (ap home_of (sym is) ∙ home) in
    ap (λ s. let u : StoredTable = record { schema = s; rows = x.rows; homes = x.homes } in u) schema
    ∙ ap (λ rs. let u : StoredTable = record { schema = inner_schema (domain_at t.schema k); rows = rs; homes = x.homes } in u) rows
    ∙ ap (λ hs. let u : StoredTable = record { schema = inner_schema (domain_at t.schema k); rows = rows_in (cell t.rows i k); homes = hs } in u) homes

-- The table after one in a cell of a view column was given another.
view_there : (n i k : ℕ) (schema : List Attribute) (cols : List StoredColumn) (t : StoredTable) (h : Heading) → table_of_columns n schema cols ≡ t → AreColumnsOf n schema cols → k < length t.schema
    → domain_at t.schema k ≡ Domain.relation h → IsColumnThere n (Domain.relation h) (get_or cols k no_column)
view_there n i k schema cols t h view are p kind =
    let width = ap (λ (x : StoredTable). length x.schema) view in
    column_there n k schema cols (Domain.relation h) are (omega (arith, width)) (ap (λ (x : StoredTable). domain_at x.schema k) view ∙ kind)

pub has_view_there : (n i k : ℕ) (schema : List Attribute) (cols : List StoredColumn) (t : StoredTable) (h : Heading) → table_of_columns n schema cols ≡ t → AreColumnsOf n schema cols → i < length t.rows → k < length t.schema
    → domain_at t.schema k ≡ Domain.relation h → HasView (get_or cols k no_column) i
has_view_there n i k schema cols t h view are p q kind =
    let there = view_there n i k schema cols t h view are q kind in
    let many = there.many in
    let rows = ap (λ (x : StoredTable). length x.rows) view in
    has_view (Domain.relation h) n i (get_or cols k no_column) (column_of_views n h (get_or cols k no_column) there.column) there.column
    (omega (arith, many, rows, length-rows_of_columns n schema cols))

pub view_done : (n i k : ℕ) (schema : List Attribute) (cols new : List StoredColumn) (t inner : StoredTable) → table_of_columns n schema cols ≡ t → AreColumnsOf n schema cols → i < length t.rows → k < length t.schema
    → domain_at t.schema k ≡ Domain.relation (heading_of inner.schema) → IsTable inner → HasHomes inner → new ≡ set cols k (with_view i inner (get_or cols k no_column)) → AreRebuilt n schema new (with_inner t i k inner)
view_done n i k schema cols new t inner view are p q kind whole homes done =
    let h = heading_of inner.schema in
    let there = view_there n i k schema cols t h view are q kind in
    let inside : IsTableOf (attributes_of h) inner = record { same_schema = sym (attributes_of-heading_of inner.schema); rows = whole.rows; homes = homes } in
    set_done n i k schema cols new t (Domain.relation h) (Datum.relation (relation_of inner.rows)) inner.homes view are p q (sym kind ∙ ap (λ (x : StoredTable). domain_at x.schema k) (sym view))
    (record {
      column = with_view i inner (get_or cols k no_column);
      set_is = view_set h n i (get_or cols k no_column) inner there.column inside;
      others = done;
    })

-- Columns at whose end a row was put, and those that were made ready for it.
use Rattle.std.proofs.Common.{Box, Global, ◌≡◌, ℕ, zero, suc, ◌+◌, ◌-◌, ◌<◌, ◌≤◌, ℤ, List, [], ◌∷◌, ◌++◌, length, get_or, take, drop, map, pos, refl, ap, sym, subst, ◌∙◌, arith}
use Rattle.std.specs.List.{AllZip}
use Rattle.std.proofs.lemmas.List.{length-map, get_or-map, take_all, drop_all}
use Rattle.mk_value.specs.Heading.{Domain, Attribute}
use Rattle.mk_value.specs.Data.{Datum, integer, relation_of, IsOf, IsRowOf}
use Rattle.mk_value.specs.Tables.{domain_at}
use Rattle.mk_value.specs.Values.{datum_of}
use Rattle.mk_value.specs.declared.value.Value.{Value}
use Rattle.tables.specs.Homes.{no_home, column_of}
use Rattle.tables.specs.Rows.{inserted, home_inserted, with_rows_inserted}
use Rattle.tables.specs.Shapes.{HasHomes}
use Rattle.tables.specs.Tables.{StoredTable, IsTable}
use Rattle.tables.specs.Columns.{StoredColumn, integers, texts, views, no_column, column_values, home_of, table_of_columns, IsColumnOf, IsColumnWith, AreColumnsOf, AreColumnsIn}
use Rattle.tables.specs.declared.prepared.Copied.{Copied}
use Rattle.tables.specs.declared.prepared.PreparedColumn.{PreparedColumn}
use Rattle.tables.specs.declared.prepared.PreparedColumn.TheVariants.{Ints, Blobs, Listed, Views}
use Rattle.tables.specs.Edits.{IsPutIn, ArePutIn}
use Rattle.tables.specs.Prepared.{IsPushed, AreReady, ArePushed, HasRoomForNumber, HasRoomForString, IsAfter, IsReadyFor, IsReadyForNumber, IsReadyForString, IsLonger}
use Rattle.segments.proofs.Last.{front-push}
use Rattle.tables.proofs.ColumnWith.{keeps_integer, keeps_long, keeps_text, keeps_bytes, numbers_many, strings_many, views_many, integers_inserted_in, longs_inserted_in, texts_inserted_in, bytes_inserted_in, views_inserted}
use Rattle.tables.proofs.Gathering.{column_of-columns, length-rows_of_columns}
use Rattle.tables.proofs.Rebuilding.{AreRebuilt, column_inserted, inserted_done}

-- a value put behind all others
at_end : {X : Type 0} (n : ℕ) (x : X) (xs : List X) → length xs ≡ n → xs ++ x ∷ [] ≡ inserted n 1 x xs
at_end n x xs e =
    ap (λ ys. ys ++ x ∷ []) (sym (take_all n xs (omega arith))) ∙ ap (λ ys. take n xs ++ (x ∷ ys)) (sym (drop_all n xs (omega arith)))

-- columns that have room for one value more
pub room_integer : (e : Domain) (n : ℕ) (z : ℤ) (col : StoredColumn) → n < 16777216 → IsOf (Datum.integer z) e → IsColumnOf n e col → HasRoomForNumber col
room_integer e n z (integers c) few fits whole = omega (arith, numbers_many e n (integers c) c whole refl)
room_integer e n z (texts c) few fits whole = keeps_integer e n z (texts c) fits whole
room_integer e n z (views ts) few fits whole = keeps_integer e n z (views ts) fits whole

pub room_long : (e : Domain) (n : ℕ) (z : ℤ) (col : StoredColumn) → n < 16777216 → IsOf (Datum.long z) e → IsColumnOf n e col → HasRoomForNumber col
room_long e n z (integers c) few fits whole = omega (arith, numbers_many e n (integers c) c whole refl)
room_long e n z (texts c) few fits whole = keeps_long e n z (texts c) fits whole
room_long e n z (views ts) few fits whole = keeps_long e n z (views ts) fits whole

pub room_text : (e : Domain) (n : ℕ) (v : List ℕ) (col : StoredColumn) → n < 16777216 → IsOf (Datum.text v) e → IsColumnOf n e col → HasRoomForString col
room_text e n v (texts c) few fits whole = omega (arith, strings_many e n (texts c) c whole refl)
room_text e n v (integers c) few fits whole = keeps_text e n v (integers c) fits whole
room_text e n v (views ts) few fits whole = keeps_text e n v (views ts) fits whole

pub room_bytes : (e : Domain) (n : ℕ) (v : List ℕ) (col : StoredColumn) → n < 16777216 → IsOf (Datum.bytes v) e → IsColumnOf n e col → HasRoomForString col
room_bytes e n v (texts c) few fits whole = omega (arith, strings_many e n (texts c) c whole refl)
room_bytes e n v (integers c) few fits whole = keeps_bytes e n v (integers c) fits whole
room_bytes e n v (views ts) few fits whole = keeps_bytes e n v (views ts) fits whole

-- columns that are ready for one value more

pub ready_integer : (e : Domain) (n : ℕ) (z : ℤ) (col : StoredColumn) (p : PreparedColumn) → IsOf (Datum.integer z) e → IsColumnOf n e col → IsReadyForNumber col z p → IsReadyFor n e (Datum.integer z) col p
ready_integer e n z (integers old) (Ints q) fits whole h = record {
  before = ap (λ c. integers c) h.0;
  after = after;
} where
  after : (c : StoredColumn) → IsAfter (Ints q) c → IsPushed n e (Datum.integer z) (integers old) c
  after (integers new) made =
      integers_inserted_in e n n 1 (integers old) old new z whole refl
      (made.0 ∙ ap (λ c. c.values ++ q.value ∷ []) h.0 ∙ ap (λ x. old.values ++ x ∷ []) h.1 ∙ at_end n z old.values (numbers_many e n (integers old) old whole refl)) made.1 fits
  after (texts new) made = absurd made
  after (views new) made = absurd made
ready_integer e n z (integers old) (Blobs q) fits whole h = absurd h
ready_integer e n z (integers old) (Listed l) fits whole h = absurd h
ready_integer e n z (integers old) (Views a) fits whole h = absurd h
ready_integer e n z (texts old) p fits whole h = absurd h
ready_integer e n z (views old) p fits whole h = absurd h

pub ready_long : (e : Domain) (n : ℕ) (z : ℤ) (col : StoredColumn) (p : PreparedColumn) → IsOf (Datum.long z) e → IsColumnOf n e col → IsReadyForNumber col z p → IsReadyFor n e (Datum.long z) col p
ready_long e n z (integers old) (Ints q) fits whole h = record {
  before = ap (λ c. integers c) h.0;
  after = after;
} where
  after : (c : StoredColumn) → IsAfter (Ints q) c → IsPushed n e (Datum.long z) (integers old) c
  after (integers new) made =
      longs_inserted_in e n n 1 (integers old) old new z whole refl
      (made.0 ∙ ap (λ c. c.values ++ q.value ∷ []) h.0 ∙ ap (λ x. old.values ++ x ∷ []) h.1 ∙ at_end n z old.values (numbers_many e n (integers old) old whole refl)) made.1 fits
  after (texts new) made = absurd made
  after (views new) made = absurd made
ready_long e n z (integers old) (Blobs q) fits whole h = absurd h
ready_long e n z (integers old) (Listed l) fits whole h = absurd h
ready_long e n z (integers old) (Views a) fits whole h = absurd h
ready_long e n z (texts old) p fits whole h = absurd h
ready_long e n z (views old) p fits whole h = absurd h

pub ready_text : (e : Domain) (n : ℕ) (v : List ℕ) (col : StoredColumn) (p : PreparedColumn) → IsOf (Datum.text v) e → IsColumnOf n e col → IsReadyForString col v p → IsReadyFor n e (Datum.text v) col p
ready_text e n v (texts old) (Blobs q) fits whole h = record {
  before = ap (λ c. texts c) h.0;
  after = after;
} where
  after : (c : StoredColumn) → IsAfter (Blobs q) c → IsPushed n e (Datum.text v) (texts old) c
  after (texts new) made =
      texts_inserted_in e n n 1 (texts old) old new v whole refl (made.0 ∙ h.1 ∙ at_end n v old.values (strings_many e n (texts old) old whole refl)) made.1 fits
  after (integers new) made = absurd made
  after (views new) made = absurd made
ready_text e n v (texts old) (Ints q) fits whole h = absurd h
ready_text e n v (texts old) (Listed l) fits whole h = absurd h
ready_text e n v (texts old) (Views a) fits whole h = absurd h
ready_text e n v (integers old) p fits whole h = absurd h
ready_text e n v (views old) p fits whole h = absurd h

pub ready_bytes : (e : Domain) (n : ℕ) (v : List ℕ) (col : StoredColumn) (p : PreparedColumn) → IsOf (Datum.bytes v) e → IsColumnOf n e col → IsReadyForString col v p → IsReadyFor n e (Datum.bytes v) col p
ready_bytes e n v (texts old) (Blobs q) fits whole h = record {
  before = ap (λ c. texts c) h.0;
  after = after;
} where
  after : (c : StoredColumn) → IsAfter (Blobs q) c → IsPushed n e (Datum.bytes v) (texts old) c
  after (texts new) made =
      bytes_inserted_in e n n 1 (texts old) old new v whole refl (made.0 ∙ h.1 ∙ at_end n v old.values (strings_many e n (texts old) old whole refl)) made.1 fits
  after (integers new) made = absurd made
  after (views new) made = absurd made
ready_bytes e n v (texts old) (Ints q) fits whole h = absurd h
ready_bytes e n v (texts old) (Listed l) fits whole h = absurd h
ready_bytes e n v (texts old) (Views a) fits whole h = absurd h
ready_bytes e n v (integers old) p fits whole h = absurd h
ready_bytes e n v (views old) p fits whole h = absurd h

pub ready_table : (e : Domain) (n : ℕ) (rows : List (List Datum)) (ts longer : List StoredTable) (copied : Box Copied Global) → copied.value ≡ record { before = ts; longer = longer } → IsOf (Datum.relation (relation_of rows)) e → IsColumnOf n e (views ts) → IsLonger e rows ts longer
    → IsReadyFor n e (Datum.relation (relation_of rows)) (views ts) (Views copied)
ready_table e n rows ts longer copied is fits whole h = record {
  before = ap (λ (c : Copied). views c.before) is;
  after = after;
} where
  after : (c : StoredColumn) → IsAfter (Views copied) c → IsPushed n e (Datum.relation (relation_of rows)) (views ts) c
  after (views new) made =
      views_inserted e n n 1 (views ts) ts new rows h.table whole refl
      (made ∙ ap (λ (c : Copied). c.longer) is ∙ h.put ∙ at_end n h.table ts (views_many e n (views ts) ts whole refl)) h.made fits
  after (integers new) made = absurd made
  after (texts new) made = absurd made

pub ready_list : (e : Domain) (n : ℕ) (rows : List (List Datum)) (ts list : List StoredTable) → IsOf (Datum.relation (relation_of rows)) e → IsColumnOf n e (views ts) → IsLonger e rows ts list
    → IsReadyFor n e (Datum.relation (relation_of rows)) (views ts) (Listed list)
ready_list e n rows ts list fits whole h = record {
  before = ap (λ xs. views (take (length xs - 1) xs)) h.put ∙ ap views (front-push ts h.table);
  after = after;
} where
  after : (c : StoredColumn) → IsAfter (Listed list) c → IsPushed n e (Datum.relation (relation_of rows)) (views ts) c
  after (views new) made =
      views_inserted e n n 1 (views ts) ts new rows h.table whole refl
      (made ∙ h.put ∙ at_end n h.table ts (views_many e n (views ts) ts whole refl)) h.made fits
  after (integers new) made = absurd made
  after (texts new) made = absurd made

-- whole columns are ready for a row that fits
pub are_ready : (n : ℕ) (schema : List Attribute) (row : List Datum) (cols : List StoredColumn) → AreColumnsOf n schema cols → IsRowOf row schema → AreReady n schema row cols
are_ready n schema row cols whole fits = go schema row cols whole.each fits
  where
    go : (schema : List Attribute) (row : List Datum) (cols : List StoredColumn) → AllZip (λ a c. IsColumnOf n a.domain c) schema cols → IsRowOf row schema → AreReady n schema row cols
    go [] [] [] h k = tt
    go [] [] (c ∷ cols) h k = absurd h
    go [] (d ∷ row) cols h k = absurd k
    go (a ∷ schema) [] cols h k = absurd k
    go (a ∷ schema) (d ∷ row) [] h k = absurd h
    go (a ∷ schema) (d ∷ row) (c ∷ cols) h k = (h.0, k.0, go schema row cols h.1 k.1)

-- the columns after a row was put in, one by one

put_paired : (at n : ℕ) (schema : List Attribute) (row : List Datum) (old new : List StoredColumn) → ArePutIn at n schema row old new → (length old ≡ length schema) × (length new ≡ length schema)
put_paired at n [] [] [] [] h = (refl, refl)
put_paired at n [] [] [] (e ∷ new) h = absurd h
put_paired at n [] [] (c ∷ old) new h = absurd h
put_paired at n [] (d ∷ row) old new h = absurd h
put_paired at n (a ∷ schema) [] old new h = absurd h
put_paired at n (a ∷ schema) (d ∷ row) [] new h = absurd h
put_paired at n (a ∷ schema) (d ∷ row) (c ∷ old) [] h = absurd h
put_paired at n (a ∷ schema) (d ∷ row) (c ∷ old) (e ∷ new) h =
    let rest = put_paired at n schema row old new h.1 in (omega (arith, rest.0), omega (arith, rest.1))

put_at : (at n k : ℕ) (schema : List Attribute) (row : List Datum) (old new : List StoredColumn) → ArePutIn at n schema row old new → k < length schema
    → IsPutIn at n (domain_at schema k) (get_or row k (integer (pos 0))) (get_or old k no_column) (get_or new k no_column)
put_at at n k [] row old new h p = absurd (omega arith)
put_at at n k (a ∷ schema) [] old new h p = absurd h
put_at at n k (a ∷ schema) (d ∷ row) [] new h p = absurd h
put_at at n k (a ∷ schema) (d ∷ row) (c ∷ old) [] h p = absurd h
put_at at n zero (a ∷ schema) (d ∷ row) (c ∷ old) (e ∷ new) h p = h.0
put_at at n (suc k) (a ∷ schema) (d ∷ row) (c ∷ old) (e ∷ new) h p = put_at at n k schema row old new h.1 (omega arith)

-- they are the columns of the table with the row
rows_put : (m at n : ℕ) (schema : List Attribute) (row : List Datum) (old new : List StoredColumn) → AreColumnsOf m schema old → IsRowOf row schema → 0 < n → ArePutIn at n schema row old new
    → AreColumnsIn (with_rows_inserted at row n (table_of_columns m schema old)) new
rows_put m at zero schema row old new whole fits some h = absurd (omega arith)
rows_put m at (suc n) schema row old new whole fits some h =
    let t : StoredTable = table_of_columns m schema old in
    let paired = put_paired at (suc n) schema row old new h in
    record {
      paired = paired.1;
      each = λ k p.
          let e : Domain = domain_at schema k in
          let d : Datum = get_or row k (integer (pos 0)) in
          let values : column_values e (get_or old k no_column) ≡ column_of t.rows k = sym (column_of-columns m k schema old no_column whole.each p) in
          let home : home_of (get_or old k no_column) ≡ get_or t.homes k no_home = sym (get_or-map home_of old k no_column no_home (omega (arith, paired.0))) in
          column_inserted t at (suc n) k row (get_or new k no_column) (length-map old home_of ∙ paired.0) fits some p
          (subst (λ x. IsColumnWith e (inserted at (suc n) d (column_of t.rows k)) (home_inserted at (suc n) e d x) (get_or new k no_column)) home
          (subst (λ vs. IsColumnWith e (inserted at (suc n) d vs) (home_inserted at (suc n) e d (home_of (get_or old k no_column))) (get_or new k no_column)) values
          (put_at at (suc n) k schema row old new h p)));
    }

-- the table with rows put in
pub rows_done : (m at n : ℕ) (schema : List Attribute) (row : List Datum) (old new : List StoredColumn) → AreColumnsOf m schema old → IsTable (table_of_columns m schema old) → HasHomes (table_of_columns m schema old)
    → at ≤ length (table_of_columns m schema old).rows → length (table_of_columns m schema old).rows + n ≤ 16777216 → 0 < n → IsRowOf row schema → ArePutIn at n schema row old new
    → AreRebuilt (m + n) schema new (with_rows_inserted at row n (table_of_columns m schema old))
rows_done m at n schema row old new whole table homes place few some fits h =
    let t : StoredTable = table_of_columns m schema old in
    let long : length t.rows ≡ m = length-rows_of_columns m schema old in
    inserted_done t at n (m + n) row new table homes place few fits (rows_put m at n schema row old new whole fits some h) (omega (arith, long))

-- the table with the row at its end
pub row_done : (n : ℕ) (schema : List Attribute) (row : List Datum) (old new : List StoredColumn) → AreColumnsOf n schema old → IsTable (table_of_columns n schema old) → HasHomes (table_of_columns n schema old)
    → length (table_of_columns n schema old).rows < 16777216 → IsRowOf row schema → ArePushed n schema row old new
    → AreRebuilt (n + 1) schema new (with_rows_inserted (length (table_of_columns n schema old).rows) row 1 (table_of_columns n schema old))
row_done n schema row old new whole table homes few fits h =
    let t : StoredTable = table_of_columns n schema old in
    let long : length t.rows ≡ n = length-rows_of_columns n schema old in
    rows_done n (length t.rows) 1 schema row old new whole table homes (omega arith) (omega (arith, few)) (omega arith) fits (subst (λ k. ArePutIn k 1 schema row old new) (sym long) h)

-- One column after another.

rest_of : {X : Type 0} (x : X) (xs : List X) → take (length (x ∷ xs) - 1) (drop 1 (x ∷ xs)) ≡ xs
rest_of x xs = take_all (length (x ∷ xs) - 1) xs (omega arith)

-- no columns are left
pub none_put : (m at n : ℕ) (schema : List Attribute) (row : List Datum) (cols : List StoredColumn) → AreReady m schema row cols → length cols ≡ 0 → ArePutIn at n schema row cols cols
none_put m at n [] [] [] h e = tt
none_put m at n [] (d ∷ row) [] h e = absurd h
none_put m at n (a ∷ schema) [] [] h e = absurd h
none_put m at n (a ∷ schema) (d ∷ row) [] h e = absurd h
none_put m at n schema row (c ∷ cols) h e = absurd (omega arith)

pub pushed_none : (n : ℕ) (schema : List Attribute) (row : List Datum) (cols : List StoredColumn) → AreReady n schema row cols → length cols ≡ 0 → ArePushed n schema row cols cols
pushed_none n schema row cols h e = none_put n n 1 schema row cols h e

-- the columns behind the first
pub ready_rest : (n : ℕ) (props : List Attribute) (values : List Value) (c : StoredColumn) (rest : List StoredColumn) → AreReady n props (map datum_of values) (c ∷ rest)
    → AreReady n (take (length props - 1) (drop 1 props)) (map datum_of (take (length values - 1) (drop 1 values))) rest
ready_rest n [] [] c rest h = absurd h
ready_rest n [] (v ∷ values) c rest h = absurd h
ready_rest n (a ∷ props) [] c rest h = absurd h
ready_rest n (a ∷ props) (v ∷ values) c rest h =
    subst (λ (ps : List Attribute). AreReady n ps (map datum_of (take (length (v ∷ values) - 1) (drop 1 (v ∷ values)))) rest) (sym (rest_of a props))
    (subst (λ (vs : List Value). AreReady n props (map datum_of vs) rest) (sym (rest_of v values)) h.2)

-- the first of them, and those behind it
pub more_put : (m at n : ℕ) (props : List Attribute) (values : List Value) (c new : StoredColumn) (rest more : List StoredColumn) (a : Attribute) (k : Domain) (v : Value)
    → AreReady m props (map datum_of values) (c ∷ rest) → a ≡ get_or props 0 a → k ≡ a.domain → v ≡ get_or values 0 v → IsPutIn at n k (datum_of v) c new
    → ArePutIn at n (take (length props - 1) (drop 1 props)) (map datum_of (take (length values - 1) (drop 1 values))) rest more → ArePutIn at n props (map datum_of values) (c ∷ rest) (new ∷ more)
more_put m at n [] [] c new rest more a k v h here kind is first behind = absurd h
more_put m at n [] (w ∷ values) c new rest more a k v h here kind is first behind = absurd h
more_put m at n (b ∷ props) [] c new rest more a k v h here kind is first behind = absurd h
more_put m at n (b ∷ props) (w ∷ values) c new rest more a k v h here kind is first behind =
    let domain : k ≡ b.domain = kind ∙ ap (λ (x : Attribute). x.domain) here in (
      subst (λ e. IsPutIn at n e (datum_of w) c new) domain (subst (λ (x : Value). IsPutIn at n k (datum_of x) c new) is first),
      subst (λ (ps : List Attribute). ArePutIn at n ps (map datum_of values) rest more) (rest_of b props)
          (subst (λ (vs : List Value). ArePutIn at n (take (length (b ∷ props) - 1) (drop 1 (b ∷ props))) (map datum_of vs) rest more) (rest_of w values) behind),
    )

pub pushed_more : (n : ℕ) (props : List Attribute) (values : List Value) (c new : StoredColumn) (rest more : List StoredColumn) (a : Attribute) (k : Domain) (v : Value)
    → AreReady n props (map datum_of values) (c ∷ rest) → a ≡ get_or props 0 a → k ≡ a.domain → v ≡ get_or values 0 v → IsPushed n k (datum_of v) c new
    → ArePushed n (take (length props - 1) (drop 1 props)) (map datum_of (take (length values - 1) (drop 1 values))) rest more → ArePushed n props (map datum_of values) (c ∷ rest) (new ∷ more)
pushed_more n props values c new rest more a k v h here kind is first behind = more_put n n 1 props values c new rest more a k v h here kind is first behind

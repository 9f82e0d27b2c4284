-- Laws of columns into which rows are put, and from which they are removed, at any place.
use Rattle.std.proofs.Common.{◌≡◌, ℕ, zero, suc, ◌+◌, ◌-◌, ◌<◌, ◌≤◌, ℤ, List, [], ◌∷◌, length, get_or, refl, sym, subst, ◌∙◌, arith, Result, Ok, Err}
use Rattle.std.specs.Result.{OnOk}
use Rattle.std.specs.List.{AllZip}
use Rattle.std.proofs.lemmas.List.{length-map, get_or-map}
use Rattle.mk_value.specs.Heading.{Domain, Attribute}
use Rattle.mk_value.specs.Data.{Datum, relation_of, IsOf}
use Rattle.mk_value.specs.Tables.{domain_at}
use Rattle.tables.specs.Homes.{no_home, column_of}
use Rattle.tables.specs.Rows.{removed, home_removed, with_rows_removed}
use Rattle.tables.specs.Shapes.{HasHomes}
use Rattle.tables.specs.Tables.{StoredTable, IsTable}
use Rattle.tables.specs.Build.{IsTableOfRows}
use Rattle.tables.specs.Columns.{StoredColumn, integers, texts, views, no_column, column_values, home_of, table_of_columns, IsColumnOf, IsColumnWith, AreColumnsOf, AreColumnsIn}
use Rattle.tables.specs.Edits.{IsPutIn, HasNumbersIn, HasStringsIn, HasTablesIn, HasSome, HaveSome, IsWithout, AreWithout}
use Rattle.tables.proofs.ColumnWith.{numbers_many, strings_many, views_many, integers_inserted_in, longs_inserted_in, texts_inserted_in, bytes_inserted_in, views_inserted, integers_removed, longs_removed, texts_removed, bytes_removed, views_removed}
use Rattle.tables.proofs.Gathering.{column_of-columns, length-rows_of_columns}
use Rattle.tables.proofs.Rebuilding.{AreRebuilt, column_removed, removed_done}

-- what was put in
pub put_integer : (e : Domain) (m at n : ℕ) (z : ℤ) (old new : StoredColumn) → IsOf (Datum.integer z) e → IsColumnOf m e old → HasNumbersIn at n z old new → IsPutIn at n e (Datum.integer z) old new
put_integer e m at n z (integers c) (integers d) fits whole h = integers_inserted_in e m at n (integers c) c d z whole refl h.0 h.1 fits
put_integer e m at n z (integers c) (texts d) fits whole h = absurd h
put_integer e m at n z (integers c) (views d) fits whole h = absurd h
put_integer e m at n z (texts c) new fits whole h = absurd h
put_integer e m at n z (views c) new fits whole h = absurd h

pub put_long : (e : Domain) (m at n : ℕ) (z : ℤ) (old new : StoredColumn) → IsOf (Datum.long z) e → IsColumnOf m e old → HasNumbersIn at n z old new → IsPutIn at n e (Datum.long z) old new
put_long e m at n z (integers c) (integers d) fits whole h = longs_inserted_in e m at n (integers c) c d z whole refl h.0 h.1 fits
put_long e m at n z (integers c) (texts d) fits whole h = absurd h
put_long e m at n z (integers c) (views d) fits whole h = absurd h
put_long e m at n z (texts c) new fits whole h = absurd h
put_long e m at n z (views c) new fits whole h = absurd h

pub put_text : (e : Domain) (m at n : ℕ) (v : List ℕ) (old new : StoredColumn) → IsOf (Datum.text v) e → IsColumnOf m e old → HasStringsIn at n v old new → IsPutIn at n e (Datum.text v) old new
put_text e m at n v (texts c) (texts d) fits whole h = texts_inserted_in e m at n (texts c) c d v whole refl h.0 h.1 fits
put_text e m at n v (texts c) (integers d) fits whole h = absurd h
put_text e m at n v (texts c) (views d) fits whole h = absurd h
put_text e m at n v (integers c) new fits whole h = absurd h
put_text e m at n v (views c) new fits whole h = absurd h

pub put_bytes : (e : Domain) (m at n : ℕ) (v : List ℕ) (old new : StoredColumn) → IsOf (Datum.bytes v) e → IsColumnOf m e old → HasStringsIn at n v old new → IsPutIn at n e (Datum.bytes v) old new
put_bytes e m at n v (texts c) (texts d) fits whole h = bytes_inserted_in e m at n (texts c) c d v whole refl h.0 h.1 fits
put_bytes e m at n v (texts c) (integers d) fits whole h = absurd h
put_bytes e m at n v (texts c) (views d) fits whole h = absurd h
put_bytes e m at n v (integers c) new fits whole h = absurd h
put_bytes e m at n v (views c) new fits whole h = absurd h

pub put_table : (e : Domain) (m at n : ℕ) (rows : List (List Datum)) (t : StoredTable) (old new : StoredColumn) → IsOf (Datum.relation (relation_of rows)) e → IsColumnOf m e old → IsTableOfRows e rows t → HasTablesIn at n t old new → IsPutIn at n e (Datum.relation (relation_of rows)) old new
put_table e m at n rows t (views ts) (views us) fits whole made h = views_inserted e m at n (views ts) ts us rows t whole refl h made fits
put_table e m at n rows t (views ts) (integers d) fits whole made h = absurd h
put_table e m at n rows t (views ts) (texts d) fits whole made h = absurd h
put_table e m at n rows t (integers c) new fits whole made h = absurd h
put_table e m at n rows t (texts c) new fits whole made h = absurd h

-- columns have the rows of the table
has_some : (e : Domain) (m n : ℕ) (col : StoredColumn) → n ≤ m → IsColumnOf m e col → HasSome n col
has_some e m n (integers c) few whole = omega (arith, numbers_many e m (integers c) c whole refl)
has_some e m n (texts c) few whole = omega (arith, strings_many e m (texts c) c whole refl)
has_some e m n (views ts) few whole = omega (arith, views_many e m (views ts) ts whole refl)

pub have_some : (m n : ℕ) (schema : List Attribute) (cols : List StoredColumn) → n ≤ m → AreColumnsOf m schema cols → HaveSome n cols
have_some m n schema cols few whole = go schema cols whole.each
  where
    go : (schema : List Attribute) (cols : List StoredColumn) → AllZip (λ a c. IsColumnOf m a.domain c) schema cols → HaveSome n cols
    go [] [] h = tt
    go [] (c ∷ cols) h = absurd h
    go (a ∷ schema) [] h = absurd h
    go (a ∷ schema) (c ∷ cols) h = (has_some a.domain m n c few h.0, go schema cols h.1)

-- what is left
column_taken : (e : Domain) (m at n : ℕ) (old new : StoredColumn) → IsColumnOf m e old → IsWithout at n old new → IsColumnWith e (removed at n (column_values e old)) (home_removed at n (home_of old)) new
column_taken Domain.integer m at n (integers c) (integers d) whole h = integers_removed m at n (integers c) c d whole refl h.0 h.1
column_taken Domain.integer m at n (integers c) (texts d) whole h = absurd h
column_taken Domain.integer m at n (integers c) (views d) whole h = absurd h
column_taken Domain.integer m at n (texts c) new whole h = absurd whole
column_taken Domain.integer m at n (views c) new whole h = absurd whole
column_taken Domain.long m at n (integers c) (integers d) whole h = longs_removed m at n (integers c) c d whole refl h.0 h.1
column_taken Domain.long m at n (integers c) (texts d) whole h = absurd h
column_taken Domain.long m at n (integers c) (views d) whole h = absurd h
column_taken Domain.long m at n (texts c) new whole h = absurd whole
column_taken Domain.long m at n (views c) new whole h = absurd whole
column_taken Domain.text m at n (integers c) new whole h = absurd whole
column_taken Domain.text m at n (texts c) (integers d) whole h = absurd h
column_taken Domain.text m at n (texts c) (texts d) whole h = texts_removed m at n (texts c) c d whole refl h.0 h.1
column_taken Domain.text m at n (texts c) (views d) whole h = absurd h
column_taken Domain.text m at n (views c) new whole h = absurd whole
column_taken Domain.bytes m at n (integers c) new whole h = absurd whole
column_taken Domain.bytes m at n (texts c) (integers d) whole h = absurd h
column_taken Domain.bytes m at n (texts c) (texts d) whole h = bytes_removed m at n (texts c) c d whole refl h.0 h.1
column_taken Domain.bytes m at n (texts c) (views d) whole h = absurd h
column_taken Domain.bytes m at n (views c) new whole h = absurd whole
column_taken (Domain.relation g) m at n (integers c) new whole h = absurd whole
column_taken (Domain.relation g) m at n (texts c) new whole h = absurd whole
column_taken (Domain.relation g) m at n (views c) (integers d) whole h = absurd h
column_taken (Domain.relation g) m at n (views c) (texts d) whole h = absurd h
column_taken (Domain.relation g) m at n (views c) (views d) whole h = views_removed g m at n (views c) c d whole refl h

taken_paired : (at n : ℕ) (old new : List StoredColumn) → AreWithout at n old new → length new ≡ length old
taken_paired at n [] [] h = refl
taken_paired at n [] (d ∷ new) h = absurd h
taken_paired at n (c ∷ old) [] h = absurd h
taken_paired at n (c ∷ old) (d ∷ new) h = let rest = taken_paired at n old new h.1 in omega (arith, rest)

columns_paired : (m : ℕ) (schema : List Attribute) (cols : List StoredColumn) → AllZip (λ a c. IsColumnOf m a.domain c) schema cols → length cols ≡ length schema
columns_paired m [] [] h = refl
columns_paired m [] (c ∷ cols) h = absurd h
columns_paired m (a ∷ schema) [] h = absurd h
columns_paired m (a ∷ schema) (c ∷ cols) h = let rest = columns_paired m schema cols h.1 in omega (arith, rest)

taken_at : (m at n k : ℕ) (schema : List Attribute) (old new : List StoredColumn) → AllZip (λ a c. IsColumnOf m a.domain c) schema old → AreWithout at n old new → k < length schema
    → IsColumnWith (domain_at schema k) (removed at n (column_values (domain_at schema k) (get_or old k no_column))) (home_removed at n (home_of (get_or old k no_column))) (get_or new k no_column)
taken_at m at n k [] old new whole h p = absurd (omega arith)
taken_at m at n k (a ∷ schema) [] new whole h p = absurd whole
taken_at m at n k (a ∷ schema) (c ∷ old) [] whole h p = absurd h
taken_at m at n zero (a ∷ schema) (c ∷ old) (d ∷ new) whole h p = column_taken a.domain m at n c d whole.0 h.0
taken_at m at n (suc k) (a ∷ schema) (c ∷ old) (d ∷ new) whole h p = taken_at m at n k schema old new whole.1 h.1 (omega arith)

-- they are the columns of the table without the rows
rows_taken : (m at n : ℕ) (schema : List Attribute) (old new : List StoredColumn) → AreColumnsOf m schema old → 0 < n → AreWithout at n old new → AreColumnsIn (with_rows_removed at n (table_of_columns m schema old)) new
rows_taken m at zero schema old new whole some h = absurd (omega arith)
rows_taken m at (suc n) schema old new whole some h =
    let t : StoredTable = table_of_columns m schema old in
    let paired = columns_paired m schema old whole.each in
    record {
      paired = taken_paired at (suc n) old new h ∙ paired;
      each = λ k p.
          let e : Domain = domain_at schema k in
          let values : column_values e (get_or old k no_column) ≡ column_of t.rows k = sym (column_of-columns m k schema old no_column whole.each p) in
          let home : home_of (get_or old k no_column) ≡ get_or t.homes k no_home = sym (get_or-map home_of old k no_column no_home (omega (arith, paired))) in
          column_removed t at (suc n) k (get_or new k no_column) (length-map old home_of ∙ paired) some p
          (subst (λ x. IsColumnWith e (removed at (suc n) (column_of t.rows k)) (home_removed at (suc n) x) (get_or new k no_column)) home
          (subst (λ vs. IsColumnWith e (removed at (suc n) vs) (home_removed at (suc n) (home_of (get_or old k no_column))) (get_or new k no_column)) values
          (taken_at m at (suc n) k schema old new whole.each h p)));
    }

-- the table without the rows
pub taken_done : (m at n : ℕ) (schema : List Attribute) (old new : List StoredColumn) → AreColumnsOf m schema old → IsTable (table_of_columns m schema old) → HasHomes (table_of_columns m schema old)
    → at + n ≤ length (table_of_columns m schema old).rows → 0 < n → AreWithout at n old new → AreRebuilt (m - n) schema new (with_rows_removed at n (table_of_columns m schema old))
taken_done m at n schema old new whole table homes within some h =
    let t : StoredTable = table_of_columns m schema old in
    let long : length t.rows ≡ m = length-rows_of_columns m schema old in
    removed_done t at n (m - n) new table homes within (rows_taken m at n schema old new whole some h) (omega (arith, long))

-- what holds after a call that was made on the way of another
pub both_ok : {A E P Q R : Type 0} (r : Result A E) → (P → Q → R) → OnOk r P → OnOk r Q → OnOk r R
both_ok (Ok x) f p q = f p q
both_ok (Err e) f p q = tt

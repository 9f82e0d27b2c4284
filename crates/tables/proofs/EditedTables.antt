-- A table after an edit: its homes have its shape, and it rests on the table before.
use Rattle.std.proofs.Common.{◌≡◌, ◌≢◌, ℕ, zero, suc, ◌<◌, ⊎_elim, List, [], ◌∷◌, length, get_or, set, map, pos, refl, ap, sym, subst, ◌∙◌, arith, zero-add}
use Rattle.std.proofs.lemmas.List.{get_or-map, get_or-set_same, get_or-set_other, length-map, length-set}
use Rattle.mk_value.specs.Heading.{Domain, Heading, Attribute, attributes_of, heading_of}
use Rattle.mk_value.specs.Data.{Datum, integer, relation, relation_of, cell}
use Rattle.mk_value.specs.Tables.{domain_at}
use Rattle.mk_value.proofs.Headings.{heading_of-attributes_of}
use Rattle.mk_value.proofs.Relations.{rows_of-relation_of}
use Rattle.tables.specs.Homes.{Home, no_home, column_homes, column_of, rows_in, empty_homes_in}
use Rattle.tables.specs.Tables.{StoredTable, inner_schema, inner_table, homes_in, home_with, with_value, with_inner, table_without_homes}
use Rattle.tables.specs.Rows.{inserted, removed, home_inserted, homes_inserted, home_removed, with_rows_inserted, with_rows_removed}
use Rattle.tables.specs.Rests.{homed_in, homed_from, homed_columns, Rest, RestsOn}
use Rattle.tables.specs.Shapes.{IsHomeOf, AreHomesOf, HasHomes}
use Rattle.tables.proofs.Apart.{Rest-self}
use Rattle.tables.proofs.Homeless.{same_or_not, column-set, column-set_same}
use Rattle.tables.proofs.Lists.{map-inserted, map-removed}
use Rattle.tables.proofs.Resting.{Rest-none, homed_from-empty}
use Rattle.tables.proofs.ColumnwiseHomes.{HaveShape, shape_each, each_shape, columns_rest}
use Rattle.tables.proofs.EditedColumns.{empty_homes-shape, home_inserted-shape, home_inserted-rests, home_removed-shape, home_removed-rests, HaveShapeIn, RestIn, home_with-shape, home_with-rests, homes_in-shape}

abbrev value_at : List Datum → ℕ → Datum
value_at row m = get_or row m (integer (pos 0))

-- each column of a table whose homes have its shape
columns : (t : StoredTable) → HasHomes t → HaveShape t.homes t.schema 0 t.rows
columns t h = shape_each t.homes t.schema 0 t.rows h

pub column_shape : (t : StoredTable) → HasHomes t → (m : ℕ) → m < length t.schema → IsHomeOf (get_or t.homes m no_home) (domain_at t.schema m) (column_of t.rows m)
column_shape t h m p = subst (λ j. IsHomeOf (get_or t.homes m no_home) (domain_at t.schema m) (column_of t.rows j)) (zero-add m) ((columns t h).each m p)

-- a table whose columns have their shape, one by one
shaped : (homes : List Home) (schema : List Attribute) (rows : List (List Datum)) → length homes ≡ length schema
    → ((m : ℕ) → m < length schema → IsHomeOf (get_or homes m no_home) (domain_at schema m) (column_of rows m)) → AreHomesOf (column_homes homes) (heading_of schema) 0 rows
shaped homes schema rows long each =
    each_shape homes schema 0 rows (record {
      long = long;
      each = λ m p. subst (λ j. IsHomeOf (get_or homes m no_home) (domain_at schema m) (column_of rows j)) (sym (zero-add m)) (each m p);
    })

-- a table that rests on another column by column
rested : (new old : List Home) (schema : List Attribute) (rows before : List (List Datum)) → length new ≡ length old
    → ((m : ℕ) → m < length old → Rest (homed_in (get_or new m no_home) (domain_at schema m) (column_of rows m)) (homed_in (get_or old m no_home) (domain_at schema m) (column_of before m)))
    → Rest (homed_from (column_homes new) schema 0 rows) (homed_from (column_homes old) schema 0 before)
rested new old schema rows before long each =
    columns_rest new old schema 0 rows before long
    (λ m p. subst (λ j. Rest (homed_in (get_or new m no_home) (domain_at schema j) (column_of rows j)) (homed_in (get_or old m no_home) (domain_at schema j) (column_of before j))) (sym (zero-add m)) (each m p))

-- Rows put in.
length-homes_inserted : (at n : ℕ) (schema : List Attribute) (row : List Datum) (homes : List Home) → length row ≡ length schema → length homes ≡ length schema → length (homes_inserted at n schema row homes) ≡ length schema
length-homes_inserted at n [] row homes p q = refl
length-homes_inserted at n (a ∷ schema) [] homes p q = absurd (omega (arith, p))
length-homes_inserted at n (a ∷ schema) (d ∷ row) [] p q = absurd (omega (arith, q))
length-homes_inserted at n (a ∷ schema) (d ∷ row) (h ∷ homes) p q =
    let e = length-homes_inserted at n schema row homes (omega (arith, p)) (omega (arith, q)) in omega (arith, e)

homes_inserted-at : (at n : ℕ) (schema : List Attribute) (row : List Datum) (homes : List Home) (m : ℕ) → length row ≡ length schema → length homes ≡ length schema → m < length schema
    → get_or (homes_inserted at n schema row homes) m no_home ≡ home_inserted at n (domain_at schema m) (value_at row m) (get_or homes m no_home)
homes_inserted-at at n [] row homes m p q r = absurd (omega arith)
homes_inserted-at at n (a ∷ schema) [] homes m p q r = absurd (omega (arith, p))
homes_inserted-at at n (a ∷ schema) (d ∷ row) [] m p q r = absurd (omega (arith, q))
homes_inserted-at at n (a ∷ schema) (d ∷ row) (h ∷ homes) zero p q r = refl
homes_inserted-at at n (a ∷ schema) (d ∷ row) (h ∷ homes) (suc m) p q r = homes_inserted-at at n schema row homes m (omega (arith, p)) (omega (arith, q)) (omega arith)

column-inserted : (at n : ℕ) (row : List Datum) (rows : List (List Datum)) (m : ℕ) → column_of (inserted at n row rows) m ≡ inserted at n (value_at row m) (column_of rows m)
column-inserted at n row rows m = map-inserted (λ (r : List Datum). value_at r m) at n row rows

pub inserted-shape : (t : StoredTable) (at : ℕ) (row : List Datum) (n : ℕ) → HasHomes t → length row ≡ length t.schema → HasHomes (with_rows_inserted at row n t)
inserted-shape t at row zero h p = h
inserted-shape t at row (suc n) h p =
    let long = (columns t h).long in
    shaped (homes_inserted at (suc n) t.schema row t.homes) t.schema (inserted at (suc n) row t.rows) (length-homes_inserted at (suc n) t.schema row t.homes p long)
    (λ m q.
    subst (λ vs. IsHomeOf (get_or (homes_inserted at (suc n) t.schema row t.homes) m no_home) (domain_at t.schema m) vs) (sym (column-inserted at (suc n) row t.rows m))
    (subst (λ x. IsHomeOf x (domain_at t.schema m) (inserted at (suc n) (value_at row m) (column_of t.rows m))) (sym (homes_inserted-at at (suc n) t.schema row t.homes m p long q))
    (home_inserted-shape (domain_at t.schema m) at (suc n) (value_at row m) (column_of t.rows m) (get_or t.homes m no_home) (column_shape t h m q))))

pub inserted-rests : (t : StoredTable) (at : ℕ) (row : List Datum) (n : ℕ) → HasHomes t → length row ≡ length t.schema → RestsOn (with_rows_inserted at row n t) t
inserted-rests t at row zero h p = Rest-self (homed_from (column_homes t.homes) t.schema 0 t.rows)
inserted-rests t at row (suc n) h p =
    let long = (columns t h).long in
    rested (homes_inserted at (suc n) t.schema row t.homes) t.homes t.schema (inserted at (suc n) row t.rows) t.rows (length-homes_inserted at (suc n) t.schema row t.homes p long ∙ sym long)
    (λ m q.
    let r : m < length t.schema = omega (arith, long) in
    let was = homed_in (get_or t.homes m no_home) (domain_at t.schema m) (column_of t.rows m) in
    subst (λ vs. Rest (homed_in (get_or (homes_inserted at (suc n) t.schema row t.homes) m no_home) (domain_at t.schema m) vs) was) (sym (column-inserted at (suc n) row t.rows m))
    (subst (λ x. Rest (homed_in x (domain_at t.schema m) (inserted at (suc n) (value_at row m) (column_of t.rows m))) was) (sym (homes_inserted-at at (suc n) t.schema row t.homes m p long r))
    (home_inserted-rests (domain_at t.schema m) at (suc n) (value_at row m) (column_of t.rows m) (get_or t.homes m no_home) (column_shape t h m r))))

-- Rows removed.
column-removed : (at n : ℕ) (rows : List (List Datum)) (m : ℕ) → column_of (removed at n rows) m ≡ removed at n (column_of rows m)
column-removed at n rows m = map-removed (λ (r : List Datum). value_at r m) at n rows

pub removed-shape : (t : StoredTable) (at n : ℕ) → HasHomes t → HasHomes (with_rows_removed at n t)
removed-shape t at zero h = h
removed-shape t at (suc n) h =
    let long = (columns t h).long in
    shaped (map (home_removed at (suc n)) t.homes) t.schema (removed at (suc n) t.rows) (length-map t.homes (home_removed at (suc n)) ∙ long)
    (λ m q.
    subst (λ vs. IsHomeOf (get_or (map (home_removed at (suc n)) t.homes) m no_home) (domain_at t.schema m) vs) (sym (column-removed at (suc n) t.rows m))
    (subst (λ x. IsHomeOf x (domain_at t.schema m) (removed at (suc n) (column_of t.rows m))) (sym (get_or-map (home_removed at (suc n)) t.homes m no_home no_home (omega (arith, long))))
    (home_removed-shape (domain_at t.schema m) at (suc n) (column_of t.rows m) (get_or t.homes m no_home) (column_shape t h m q))))

pub removed-rests : (t : StoredTable) (at n : ℕ) → HasHomes t → RestsOn (with_rows_removed at n t) t
removed-rests t at zero h = Rest-self (homed_from (column_homes t.homes) t.schema 0 t.rows)
removed-rests t at (suc n) h =
    let long = (columns t h).long in
    rested (map (home_removed at (suc n)) t.homes) t.homes t.schema (removed at (suc n) t.rows) t.rows (length-map t.homes (home_removed at (suc n)))
    (λ m q.
    let was = homed_in (get_or t.homes m no_home) (domain_at t.schema m) (column_of t.rows m) in
    subst (λ vs. Rest (homed_in (get_or (map (home_removed at (suc n)) t.homes) m no_home) (domain_at t.schema m) vs) was) (sym (column-removed at (suc n) t.rows m))
    (subst (λ x. Rest (homed_in x (domain_at t.schema m) (removed at (suc n) (column_of t.rows m))) was) (sym (get_or-map (home_removed at (suc n)) t.homes m no_home no_home q))
    (home_removed-rests (domain_at t.schema m) at (suc n) (column_of t.rows m) (get_or t.homes m no_home) (column_shape t h m (omega (arith, long))))))

-- A value given another. The row and the property are there.
pub record IsCell (t : StoredTable) (i k : ℕ) : Type 0 where
  pub row : i < length t.rows
  pub property : k < length t.schema
  pub value : k < length (get_or t.rows i [])

-- what becomes of each column: the one that was set, and the others
set_column : (P : Home → Domain → List Datum → Type 0) (t : StoredTable) (i k : ℕ) (d : Datum) (homes : List Home) → IsCell t i k → length t.homes ≡ length t.schema
    → P (home_with i homes (get_or t.homes k no_home)) (domain_at t.schema k) (set (column_of t.rows k) i d)
    → (m : ℕ) → (m ≢ k → P (get_or t.homes m no_home) (domain_at t.schema m) (column_of t.rows m))
    → P (get_or (set t.homes k (home_with i homes (get_or t.homes k no_home))) m no_home) (domain_at t.schema m) (column_of (set t.rows i (set (get_or t.rows i []) k d)) m)
set_column P t i k d homes c long here m others =
    let x = home_with i homes (get_or t.homes k no_home) in
    let rows = set t.rows i (set (get_or t.rows i []) k d) in
    ⊎_elim
    (λ (same : m ≡ k).
    subst (λ j. P (get_or (set t.homes k x) j no_home) (domain_at t.schema j) (column_of rows j)) (sym same)
    (let p = c.property in
    subst (λ h. P h (domain_at t.schema k) (column_of rows k)) (sym (get_or-set_same t.homes k x no_home (omega (arith, long))))
    (subst (λ vs. P x (domain_at t.schema k) vs) (sym (column-set_same t.rows i k d c.value)) here)))
    (λ (other : m ≢ k).
    subst (λ h. P h (domain_at t.schema m) (column_of rows m)) (sym (get_or-set_other t.homes k m x no_home other))
    (subst (λ vs. P (get_or t.homes m no_home) (domain_at t.schema m) vs) (sym (column-set t.rows i k m d c.row other)) (others other)))
    (same_or_not m k)

pub valued-shape : (t : StoredTable) (i k : ℕ) (d : Datum) (homes : List Home) → HasHomes t → IsCell t i k → HaveShapeIn (domain_at t.schema k) homes d → HasHomes (with_value t i k d homes)
valued-shape t i k d homes h c s =
    let long = (columns t h).long in
    shaped (set t.homes k (home_with i homes (get_or t.homes k no_home))) t.schema (set t.rows i (set (get_or t.rows i []) k d)) (length-set t.homes k _ ∙ long)
    (λ m q. set_column IsHomeOf t i k d homes c long
    (home_with-shape (domain_at t.schema k) i homes d (column_of t.rows k) (get_or t.homes k no_home) (column_shape t h k c.property) s)
    m (λ _. column_shape t h m q))

-- the homes in a value are those in the cell
cell_value : (t : StoredTable) (i k : ℕ) → i < length t.rows → get_or (column_of t.rows k) i (integer (pos 0)) ≡ cell t.rows i k
cell_value t i k p = get_or-map (λ (r : List Datum). value_at r k) t.rows i [] (integer (pos 0)) p

pub valued-rests : (t : StoredTable) (i k : ℕ) (d : Datum) (homes : List Home) → HasHomes t → IsCell t i k
    → RestIn (domain_at t.schema k) homes d (homes_in (get_or t.homes k no_home) i) (cell t.rows i k) → RestsOn (with_value t i k d homes) t
valued-rests t i k d homes h c r =
    let long = (columns t h).long in
    let inside = subst (λ v. RestIn (domain_at t.schema k) homes d (homes_in (get_or t.homes k no_home) i) v) (sym (cell_value t i k c.row)) r in
    let first = home_with-rests (domain_at t.schema k) i homes d (column_of t.rows k) (get_or t.homes k no_home) (column_shape t h k c.property) inside in
    rested (set t.homes k (home_with i homes (get_or t.homes k no_home))) t.homes t.schema (set t.rows i (set (get_or t.rows i []) k d)) t.rows (length-set t.homes k _)
    (λ m q.
    ⊎_elim
    (λ (same : m ≡ k).
    subst (λ j. Rest (homed_in (get_or (set t.homes k (home_with i homes (get_or t.homes k no_home))) j no_home) (domain_at t.schema j) (column_of (set t.rows i (set (get_or t.rows i []) k d)) j))
    (homed_in (get_or t.homes j no_home) (domain_at t.schema j) (column_of t.rows j))) (sym same)
    (set_column (λ x e vs. Rest (homed_in x e vs) (homed_in (get_or t.homes k no_home) (domain_at t.schema k) (column_of t.rows k))) t i k d homes c long first k (λ ne. absurd (ne refl))))
    (λ (other : m ≢ k).
    let was = homed_in (get_or t.homes m no_home) (domain_at t.schema m) (column_of t.rows m) in
    subst (λ x. Rest (homed_in x (domain_at t.schema m) (column_of (set t.rows i (set (get_or t.rows i []) k d)) m)) was) (sym (get_or-set_other t.homes k m (home_with i homes (get_or t.homes k no_home)) no_home other))
    (subst (λ vs. Rest (homed_in (get_or t.homes m no_home) (domain_at t.schema m) vs) was) (sym (column-set t.rows i k m d c.row other)) (Rest-self was)))
    (same_or_not m k))

-- A value given another that has no homes.
empty_in-shape : (e : Domain) (d : Datum) → HaveShapeIn e (empty_homes_in e d) d
empty_in-shape Domain.integer d = tt
empty_in-shape Domain.long d = tt
empty_in-shape Domain.text d = tt
empty_in-shape Domain.bytes d = tt
empty_in-shape (Domain.relation g) d = empty_homes-shape g 0 (rows_in d)

empty_in-rests : (e : Domain) (d : Datum) (old : List Home) (value : Datum) → RestIn e (empty_homes_in e d) d old value
empty_in-rests Domain.integer d old value = tt
empty_in-rests Domain.long d old value = tt
empty_in-rests Domain.text d old value = tt
empty_in-rests Domain.bytes d old value = tt
empty_in-rests (Domain.relation g) d old value = Rest-none _ _ (homed_from-empty g 0 (rows_in d) (attributes_of g) 0 (rows_in d))

pub set-shape : (t : StoredTable) (i k : ℕ) (d : Datum) → HasHomes t → IsCell t i k → HasHomes (with_value t i k d (empty_homes_in (domain_at t.schema k) d))
set-shape t i k d h c = valued-shape t i k d (empty_homes_in (domain_at t.schema k) d) h c (empty_in-shape (domain_at t.schema k) d)

pub set-rests : (t : StoredTable) (i k : ℕ) (d : Datum) → HasHomes t → IsCell t i k → RestsOn (with_value t i k d (empty_homes_in (domain_at t.schema k) d)) t
set-rests t i k d h c = valued-rests t i k d (empty_homes_in (domain_at t.schema k) d) h c (empty_in-rests (domain_at t.schema k) d _ _)

-- The table in a cell given another of its schema.
nested-shape_in : (e : Domain) (inner : StoredTable) → inner.schema ≡ inner_schema e → HasHomes inner → HaveShapeIn e inner.homes (relation (relation_of inner.rows))
nested-shape_in Domain.integer inner same h = tt
nested-shape_in Domain.long inner same h = tt
nested-shape_in Domain.text inner same h = tt
nested-shape_in Domain.bytes inner same h = tt
nested-shape_in (Domain.relation g) inner same h =
    subst (λ rows. AreHomesOf (column_homes inner.homes) g 0 rows) (sym (rows_of-relation_of inner.rows))
    (subst (λ x. AreHomesOf (column_homes inner.homes) x 0 inner.rows) (ap heading_of same ∙ heading_of-attributes_of g) h)

nested-rests_in : (e : Domain) (inner : StoredTable) (old : List Home) (value : Datum) → inner.schema ≡ inner_schema e
    → Rest (homed_from (column_homes inner.homes) inner.schema 0 inner.rows) (homed_from (column_homes old) (inner_schema e) 0 (rows_in value)) → RestIn e inner.homes (relation (relation_of inner.rows)) old value
nested-rests_in Domain.integer inner old value same r = tt
nested-rests_in Domain.long inner old value same r = tt
nested-rests_in Domain.text inner old value same r = tt
nested-rests_in Domain.bytes inner old value same r = tt
nested-rests_in (Domain.relation g) inner old value same r =
    subst (λ rows. Rest (homed_from (column_homes inner.homes) (attributes_of g) 0 rows) (homed_from (column_homes old) (attributes_of g) 0 (rows_in value))) (sym (rows_of-relation_of inner.rows))
    (subst (λ s. Rest (homed_from (column_homes inner.homes) s 0 inner.rows) (homed_from (column_homes old) (attributes_of g) 0 (rows_in value))) same r)

pub nested-shape : (t : StoredTable) (i k : ℕ) (inner : StoredTable) → HasHomes t → IsCell t i k → inner.schema ≡ inner_schema (domain_at t.schema k) → HasHomes inner → HasHomes (with_inner t i k inner)
nested-shape t i k inner h c same s = valued-shape t i k (relation (relation_of inner.rows)) inner.homes h c (nested-shape_in (domain_at t.schema k) inner same s)

pub nested-rests : (t : StoredTable) (i k : ℕ) (inner : StoredTable) → HasHomes t → IsCell t i k → inner.schema ≡ inner_schema (domain_at t.schema k)
    → RestsOn inner (inner_table t i k) → RestsOn (with_inner t i k inner) t
nested-rests t i k inner h c same r =
    valued-rests t i k (relation (relation_of inner.rows)) inner.homes h c
    (nested-rests_in (domain_at t.schema k) inner (homes_in (get_or t.homes k no_home) i) (cell t.rows i k) same r)

inner-shape_in : (e : Domain) (homes : List Home) (d : Datum) (g : Heading) → e ≡ Domain.relation g → HaveShapeIn e homes d → AreHomesOf (column_homes homes) (heading_of (inner_schema e)) 0 (rows_in d)
inner-shape_in e homes d g same s =
    subst (λ x. AreHomesOf (column_homes homes) x 0 (rows_in d)) (sym (ap (λ (x : Domain). heading_of (inner_schema x)) same ∙ heading_of-attributes_of g))
    (subst (λ (x : Domain). HaveShapeIn x homes d) same s)

-- the table in a cell of a view column has homes of its shape
pub inner-shape : (t : StoredTable) (i k : ℕ) (g : Heading) → HasHomes t → i < length t.rows → k < length t.schema → domain_at t.schema k ≡ Domain.relation g → HasHomes (inner_table t i k)
inner-shape t i k g h p q same =
    let long = length-map t.rows (λ (r : List Datum). value_at r k) in
    inner-shape_in (domain_at t.schema k) (homes_in (get_or t.homes k no_home) i) (cell t.rows i k) g same
    (subst (λ v. HaveShapeIn (domain_at t.schema k) (homes_in (get_or t.homes k no_home) i) v) (cell_value t i k p)
    (homes_in-shape (domain_at t.schema k) i (column_of t.rows k) (get_or t.homes k no_home) (omega (arith, long)) (column_shape t h k q)))

-- A table in which no column has a home.
pub empty-shape : (schema : List Attribute) (rows : List (List Datum)) → HasHomes (table_without_homes schema rows)
empty-shape schema rows = empty_homes-shape (heading_of schema) 0 rows

-- A table rests on itself.
pub RestsOn-self : (t : StoredTable) → RestsOn t t
RestsOn-self t = Rest-self (homed_columns t)

-- What an edit leaves of a table rests on the table, which is known by its columns.
use Rattle.std.proofs.Common.{◌≡◌, ℕ, ◌<◌, List, [], length, Result, Ok, Err, OnOk, OnErr, ap, sym, subst, ◌∙◌, arith}
use Rattle.mk_value.specs.Heading.{Attribute, Domain, heading_of}
use Rattle.mk_value.specs.Data.{Datum}
use Rattle.mk_value.specs.Tables.{domain_at}
use Rattle.mk_value.proofs.Headings.{attributes_of-heading_of}
use Rattle.tables.specs.Columns.{StoredColumn, table_of_columns, AreColumnsOf}
use Rattle.tables.specs.Homes.{empty_homes_in}
use Rattle.tables.specs.Rests.{RestsOn}
use Rattle.tables.specs.Shapes.{HasHomes}
use Rattle.tables.specs.Tables.{StoredTable, inner_schema, inner_table, with_inner, with_value}
use Rattle.tables.proofs.EditedTables.{IsCell, RestsOn-self, set-rests, nested-rests}
use Rattle.tables.proofs.Gathering.{HasHomes-columns}
use Rattle.tables.proofs.Rebuilding.{IsRebuilt}
use Rattle.tables.proofs.Setting.{known_of_columns}

homes_there : (n : ℕ) (schema : List Attribute) (cols : List StoredColumn) (t : StoredTable) → table_of_columns n schema cols ≡ t → AreColumnsOf n schema cols → HasHomes t
homes_there n schema cols t view are = subst HasHomes view (HasHomes-columns n schema cols are)

cell_there : (n : ℕ) (schema : List Attribute) (cols : List StoredColumn) (t : StoredTable) (i k : ℕ) → table_of_columns n schema cols ≡ t → AreColumnsOf n schema cols → i < length t.rows → k < length t.schema → IsCell t i k
cell_there n schema cols t i k view are p q =
    let known : IsRebuilt t = subst IsRebuilt view (known_of_columns n schema cols are) in
    let wide = known.wide i [] p in
    record { row = p; property = q; value = omega (arith, wide) }

-- what a call leaves, by its answer: the table that was made of the columns, or the columns as they were
by_answer : {T E : Type 0} (r : Result T E) (n : ℕ) (schema : List Attribute) (cols new : List StoredColumn) (t target : StoredTable) → table_of_columns n schema cols ≡ t
    → OnOk r (table_of_columns n schema new ≡ target) → OnErr r (new ≡ cols) → RestsOn target t → RestsOn (table_of_columns n schema new) t
by_answer (Ok x) n schema cols new t target view ok err h = subst (λ (u : StoredTable). RestsOn u t) (sym ok) h
by_answer (Err x) n schema cols new t target view ok err h = subst (λ (u : StoredTable). RestsOn u t) (sym (ap (λ cs. table_of_columns n schema cs) err ∙ view)) (RestsOn-self t)

-- a value given another that has no homes
pub set_rests : {T E : Type 0} (r : Result T E) (n : ℕ) (schema : List Attribute) (cols new : List StoredColumn) (t : StoredTable) (i k : ℕ) (d : Datum) → table_of_columns n schema cols ≡ t → AreColumnsOf n schema cols
    → i < length t.rows → k < length t.schema → OnOk r (table_of_columns n schema new ≡ with_value t i k d (empty_homes_in (domain_at t.schema k) d)) → OnErr r (new ≡ cols) → RestsOn (table_of_columns n schema new) t
set_rests r n schema cols new t i k d view are p q ok err =
    by_answer r n schema cols new t (with_value t i k d (empty_homes_in (domain_at t.schema k) d)) view ok err
    (set-rests t i k d (homes_there n schema cols t view are) (cell_there n schema cols t i k view are p q))

-- the table in a cell given another that rests on it
pub inner_rests : {T E : Type 0} (r : Result T E) (n : ℕ) (schema : List Attribute) (cols new : List StoredColumn) (t : StoredTable) (i k : ℕ) (inner : StoredTable) → table_of_columns n schema cols ≡ t → AreColumnsOf n schema cols
    → i < length t.rows → k < length t.schema → domain_at t.schema k ≡ Domain.relation (heading_of inner.schema)
    → OnOk r (table_of_columns n schema new ≡ with_inner t i k inner) → OnErr r (new ≡ cols) → RestsOn inner (inner_table t i k) → RestsOn (table_of_columns n schema new) t
inner_rests r n schema cols new t i k inner view are p q kind ok err h =
    let same : inner.schema ≡ inner_schema (domain_at t.schema k) = sym (ap inner_schema kind ∙ attributes_of-heading_of inner.schema) in
    by_answer r n schema cols new t (with_inner t i k inner) view ok err
    (nested-rests t i k inner (homes_there n schema cols t view are) (cell_there n schema cols t i k view are p q) same h)

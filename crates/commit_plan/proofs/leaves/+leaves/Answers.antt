use Rattle.std.proofs.Common.{◌≡◌, refl, ap, arith, Result, OnOk, Ok, Err, List, [], ◌∷◌, ◌++◌}
use Rattle.mk_value.specs.Heading.{Domain}
use Rattle.tables.specs.Cells.{IsWholeColumn}
use Rattle.mk_value.specs.declared.span.Span.{Span}
use Rattle.int_col.specs.Numbers.{Numbers}
use Rattle.bytes_col.specs.Strings.{Strings}
use Rattle.tables.specs.Blocks.{plain_columns}
use Rattle.tables.specs.Columns.{StoredColumn, home_of, integers, texts, views}
use Rattle.tables.specs.Pools.{IsPlacedAt}
use Rattle.tables.specs.Rests.{blocks_of}
use Rattle.tables.specs.Stored.{stored_of}
use Rattle.tables.specs.Tables.{StoredTable}
use Rattle.commit_plan.specs.declared.leaves.Leaf.{Leaf}
use Rattle.commit_plan.specs.Leaves.{Gains, due_in, homes_in}
use Rattle.commit_plan.specs.Settling.{column_due}
use Rattle.commit_plan.specs.Plain.{plain_of, plain_tables}
use Rattle.commit_plan.proofs.Gained.{gains_blobs, gains_ints, gains_joins, gains_placed}
use Rattle.commit_plan.proofs.Walked.{walked_all, walked_column, walked_row, walked_views}
use Rattle.commit_plan.proofs.Sizes.{column_within, columns_lighter}
use Rattle.commit_plan.proofs.leaves.+leaves.Goals as goal

views_added : {T E : Type 0} (r : Result T E) (c : StoredColumn) (ts : List StoredTable) (old new : List Leaf) → c ≡ views ts → OnOk r (Gains (plain_tables ts) old new) → OnOk r ((e : Domain) → IsWholeColumn e c → Gains (plain_of e c) old new)
views_added (Ok x) c ts old new is h = λ e whole. walked_views Gains gains_joins e c ts old new is h whole
views_added (Err x) c ts old new is h = tt

ints_added : {T E : Type 0} (r : Result T E) (c : StoredColumn) (k : Numbers) (leaf : Leaf) (old new : List Leaf) → c ≡ integers k → due_in leaf ≡ column_due (integers k) → homes_in leaf ≡ blocks_of (home_of (integers k)) → OnOk r (new ≡ old ++ leaf ∷ [])
    → OnOk r ((e : Domain) → IsWholeColumn e c → Gains (plain_of e c) old new)
ints_added (Ok x) c k leaf old new is due homes h = λ e whole. gains_ints e c leaf k old new is due homes whole h
ints_added (Err x) c k leaf old new is due homes h = tt

blobs_added : {T E : Type 0} (r : Result T E) (c : StoredColumn) (k : Strings) (leaf : Leaf) (old new : List Leaf) → c ≡ texts k → due_in leaf ≡ column_due (texts k) → homes_in leaf ≡ blocks_of (home_of (texts k)) → OnOk r (new ≡ old ++ leaf ∷ [])
    → OnOk r ((e : Domain) → IsWholeColumn e c → Gains (plain_of e c) old new)
blobs_added (Ok x) c k leaf old new is due homes h = λ e whole. gains_blobs e c leaf k old new is due homes whole h
blobs_added (Err x) c k leaf old new is due homes h = tt

placed_added : {T E : Type 0} (r : Result T E) (t : StoredTable) (spans : List Span) (leaf : Leaf) (old new : List Leaf) → IsPlacedAt t spans → due_in leaf ≡ [] → homes_in leaf ≡ spans → OnOk r (new ≡ old ++ leaf ∷ []) → OnOk r (Gains (plain_columns t) old new)
placed_added (Ok x) t spans leaf old new placed due homes h = gains_placed t spans leaf old new placed due homes h
placed_added (Err x) t spans leaf old new placed due homes h = tt

pub col_leaves-returns-in-Ints : goal.col_leaves-returns-in-Ints
col_leaves-returns-in-Ints t c = ints_added c.push_leaf.result (stored_of c.args.col.now) c.in-Ints.column _ c.args.leaves.now.items c.push_leaf.new.leaves.items (ap stored_of c.in-Ints.is) refl refl c.push_leaf.ensures

pub col_leaves-returns-in-Blobs : goal.col_leaves-returns-in-Blobs
col_leaves-returns-in-Blobs t c = blobs_added c.push_leaf-in-Blobs.result (stored_of c.args.col.now) c.in-Blobs.column _ c.args.leaves.now.items c.push_leaf-in-Blobs.new.leaves.items (ap stored_of c.in-Blobs.is) refl refl c.push_leaf-in-Blobs.ensures

pub nested_leaves-returns-in-Err : goal.nested_leaves-returns-in-Err
nested_leaves-returns-in-Err t c = placed_added c.push_leaf.result c.args.table c.in-Err.blocks.now _ c.args.leaves.now.items c.push_leaf.new.leaves.items c.in-Err.ensures.placed refl refl c.push_leaf.ensures

pub col_leaves-returns-in-Views : goal.col_leaves-returns-in-Views
col_leaves-returns-in-Views t c = views_added c.tables_leaves.result (stored_of c.args.col.now) c.in-Views.tables c.args.leaves.now.items c.tables_leaves.new.leaves.items (ap stored_of c.in-Views.is) c.tables_leaves.ensures

pub table_leaves-col_leaves-requires : goal.table_leaves-col_leaves-requires
table_leaves-col_leaves-requires t c =
    let lighter = columns_lighter _ c.args.table.now.schema c.cols-2.result.now c.args.table.now c.cols-2.ensures.value c.cols-2.ensures.whole in
    let within = column_within c.cols-2.result.now c.as_slice-col-items.result.now c.cols.col-index c.col-item.result c.as_slice-col-items.ensures c.col-item.is c.cols-test.true in
    (omega (arith, lighter, within), tt)

pub table_leaves-cols-preserved : goal.table_leaves-cols-preserved
table_leaves-cols-preserved t c =
    walked_column Gains gains_joins _ c.cols.col-index c.args.table.now.schema c.cols-2.result.now c.as_slice-col-items.result.now c.col-item.result c.args.leaves.now.items c.cols.leaves.items c.col_leaves.new.leaves.items
    c.cols-2.ensures.whole c.as_slice-col-items.ensures c.col-item.is c.cols-test.true c.cols.invariant c.in_ok-col_leaves.ensures

pub table_leaves-returns : goal.table_leaves-returns
table_leaves-returns t c =
    walked_all Gains gains_joins _ c.cols.col-index c.args.table.now.schema c.cols-2.result.now c.as_slice-col-items.result.now c.args.table.now c.args.leaves.now.items c.cols.leaves.items
    c.cols-2.ensures.value c.cols-2.ensures.whole c.as_slice-col-items.ensures c.cols-test.false c.cols.invariant

pub tables_leaves-rows-preserved : goal.tables_leaves-rows-preserved
tables_leaves-rows-preserved t c =
    walked_row Gains gains_joins c.rows.row c.args.tables.now c.get.result c.get.result c.args.leaves.now.items c.rows.leaves.items c.nested_leaves.new.leaves.items c.get.ensures refl c.rows.invariant c.in_ok-nested_leaves.ensures

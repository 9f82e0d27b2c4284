use Rattle.std.proofs.Common.{◌≡◌, ℕ, ◌+◌, ◌-◌, ◌<◌, ◌≤◌, List, [], ◌∷◌, ◌++◌, append-nil, length, take, drop, get_or, map, ap, sym, subst, ◌∙◌, arith}
use Rattle.std.proofs.lemmas.List.{drop_more, get_or-map, length-map}
use Rattle.std.proofs.lemmas.Option.{get_or_from_slice_get, slice_get_within}
use Rattle.std.specs.List.{slice_get}
use Rattle.std.specs.Prelude.{Some}
use Rattle.mk_value.proofs.Walks.{same_default}
use Rattle.mk_value.specs.declared.span.Span.{Span}
use Rattle.tables.specs.Columns.{StoredColumn, table_of_columns, views}
use Rattle.tables.specs.Pools.{no_table}
use Rattle.tables.specs.Tables.{StoredTable}
use Rattle.tables.specs.Shapes.{HasHomes}
use Rattle.tables.specs.Sizes.{column_size}
use Rattle.tables.specs.Stored.{stored_of}
use Rattle.tables.specs.declared.cols.Col.{Col}
use Rattle.tables.proofs.Gathering.{HasHomes-columns}
use Rattle.tables.proofs.Cells.{IfOk-then}
use Rattle.commit_plan.specs.Settling.{IsSettledAs, IsSettledTable, SettlesColumn, SettlesMore, SettlesTable, SettlesTables, column_count, counted, table_count}
use Rattle.commit_plan.proofs.DueBlocks.{table_counted, views_counted}
use Rattle.commit_plan.proofs.Settled.{columns_kept, table_settled, views_settled}
use Rattle.commit_plan.proofs.Sizes.{column_within, columns_lighter, table_within}
use Rattle.commit_plan.proofs.Staying.{all_settle, homed_settles, table_stays}
use Rattle.commit_plan.proofs.Turns.{enough_left, settles_all, settles_more, settles_several}
use Rattle.commit_plan.proofs.settling.+settle.Goals as goal

-- a column that was read among others
read_among : (cols : List StoredColumn) (items : List Col) (k : ℕ) (item : Col) → map stored_of items ≡ cols → item ≡ get_or items k item → k < length items → get_or cols k (stored_of item) ≡ stored_of item
read_among cols items k item same is p = ap (λ cs. get_or cs k (stored_of item)) (sym same) ∙ get_or-map stored_of items k item (stored_of item) p ∙ ap stored_of (sym is)

among : (cols : List StoredColumn) (items : List Col) (k : ℕ) → map stored_of items ≡ cols → k < length items → k < length cols
among cols items k same p = let e = ap length same in let f = length-map items stored_of in omega (arith, e, f, p)

pub settle_col-settle_tables-requires : goal.settle_col-settle_tables-requires
settle_col-settle_tables-requires t c =
    let size = ap (λ x. column_size (stored_of x)) c.in-Views.is in
    let count = ap (λ x. column_count (stored_of x)) c.in-Views.is in
    let same = views_counted c.in-Views.tables in
    let enough = c.requires in
    (omega (arith, size), omega (arith, count, same, enough))

pub settle_col-returns-in_ok-settle_tables-in-Views : goal.settle_col-returns-in_ok-settle_tables-in-Views
settle_col-returns-in_ok-settle_tables-in-Views t c =
    subst (λ x. SettlesColumn x c.args.places.now c.settle_tables.new.places (views c.in_ok-settle_tables-in-Views.field-0)) (sym (ap stored_of c.in-Views.is))
    (views_settled c.in-Views.tables c.in_ok-settle_tables-in-Views.field-0 c.args.places.now c.settle_tables.new.places c.in_ok-settle_tables-in-Views.ensures)

pub settle_cols-settle_col-requires : goal.settle_cols-settle_col-requires
settle_cols-settle_col-requires t c =
    let within = column_within c.args.cols.now c.as_slice-col-items.result.now c.cols.col-index c.col-item.result c.as_slice-col-items.ensures c.col-item.is c.cols-test.true in (
      omega (arith, within),
      enough_left column_count IsSettledAs c.args.cols.now c.cols.settled c.cols.col-index (stored_of c.col-item.result) c.args.places.now c.cols.places
          (among c.args.cols.now c.as_slice-col-items.result.now c.cols.col-index c.as_slice-col-items.ensures c.cols-test.true)
          (read_among c.args.cols.now c.as_slice-col-items.result.now c.cols.col-index c.col-item.result c.as_slice-col-items.ensures c.col-item.is c.cols-test.true) c.requires c.cols.invariant,
    )

pub settle_cols-cols-preserved : goal.settle_cols-cols-preserved
settle_cols-cols-preserved t c =
    settles_more column_count IsSettledAs c.args.cols.now c.cols.settled c.push.new.self c.cols.col-index (stored_of c.col-item.result) (stored_of c.in_ok-settle_col.field-0) c.args.places.now c.cols.places c.settle_col.new.places
    (among c.args.cols.now c.as_slice-col-items.result.now c.cols.col-index c.as_slice-col-items.ensures c.cols-test.true)
    (read_among c.args.cols.now c.as_slice-col-items.result.now c.cols.col-index c.col-item.result c.as_slice-col-items.ensures c.col-item.is c.cols-test.true)
    c.cols.invariant c.in_ok-settle_col.ensures c.in_ok-push.ensures.ok

pub settle_table-settle_cols-requires : goal.settle_table-settle_cols-requires
settle_table-settle_cols-requires t c =
    let table = c.table-table.result.now in
    let lighter = columns_lighter (length table.rows) table.schema c.cols.result.now c.args.shared.now (sym c.table-table.ensures ∙ c.cols.ensures.value) c.cols.ensures.whole in
    let count = table_counted (length table.rows) table.schema c.cols.result.now c.cols.ensures.whole in
    let same = ap table_count (sym c.table-table.ensures ∙ c.cols.ensures.value) in
    let enough = c.requires in
    (omega (arith, lighter), omega (arith, count, same, enough))

pub settle_table-with_cols-requires : goal.settle_table-with_cols-requires
settle_table-with_cols-requires t c =
    let table = c.table-table.result.now in
    columns_kept (length table.rows) table.schema c.cols.result.now c.in_ok-cols.cols c.args.places.now c.settle_cols.new.places c.cols.ensures.whole c.in_ok-cols.ensures

pub settle_table-returns : goal.settle_table-returns
settle_table-returns t c =
    let table = c.table-table.result.now in
    let settled = table_settled (length table.rows) table.schema c.cols.result.now c.in_ok-cols.cols c.args.places.now c.settle_cols.new.places c.cols.ensures.whole c.in_ok-cols.ensures in
    let old : table_of_columns (length table.rows) table.schema c.cols.result.now ≡ c.args.shared.now = sym c.cols.ensures.value ∙ c.table-table.ensures in
    let made : c.in_ok-with_cols.field-0 ≡ table_of_columns (length table.rows) table.schema c.in_ok-cols.cols = c.in_ok-with_cols.ensures in
    IfOk-then c.share.result c.share.ensures
    (λ u e. subst (λ x. SettlesTable c.args.shared.now c.args.places.now c.settle_cols.new.places x) (sym (e ∙ made))
    (subst (λ x. SettlesTable x c.args.places.now c.settle_cols.new.places (table_of_columns (length table.rows) table.schema c.in_ok-cols.cols)) old settled))

-- the table at a row, as one that was got there
got : (ts : List StoredTable) (row : ℕ) (t : StoredTable) → slice_get ts row ≡ Some t → get_or ts row no_table ≡ t
got ts row t at = get_or_from_slice_get ts row t no_table at

-- the one table at a row, and one that was settled
one_at : (ts : List StoredTable) (row : ℕ) (t : StoredTable) → slice_get ts row ≡ Some t → take 1 (drop row ts) ≡ t ∷ []
one_at ts row t at = ap (take 1) (drop_more ts row t (slice_get_within ts row t at)) ∙ ap (λ u. u ∷ []) (get_or_from_slice_get ts row t t at)

one_settled : (t u : StoredTable) (spans rest : List Span) → SettlesTable t spans rest u → SettlesTables (t ∷ []) spans rest (u ∷ [])
one_settled t u spans rest h = record {
  rest_is = h.rest_is ∙ ap (λ n. drop n spans) (let e : table_count t ≡ table_count t + 0 = omega arith in e);
  settled = (h.settled, tt);
}

pub settle_nested-returns-in-Err : goal.settle_nested-returns-in-Err
settle_nested-returns-in-Err t c =
    IfOk-then c.to_shared.result c.to_shared.ensures
    (λ u e. subst (SettlesTable c.args.table c.args.places.now c.args.places.now) (sym e) (homed_settles c.args.table c.args.places.now c.in-Err.ensures.placed.shaped c.in-Err.ensures.placed.homed))

pub settle_next-settle_nested-requires : goal.settle_next-settle_nested-requires
settle_next-settle_nested-requires t c =
    let within = table_within c.args.tables.now c.args.row c.get.result c.get.ensures in
    (omega (arith, within), subst (λ u. table_count u ≤ length c.args.places.now) (got c.args.tables.now c.args.row c.get.result c.get.ensures) c.requires.enough)

-- a pool that is taken over
pub settle_next-returns-then-together-gt0-clause-settled : goal.settle_next-returns-then-together-gt0-clause-settled
settle_next-returns-then-together-gt0-clause-settled t c =
    let tables = c.args.tables.now in
    let row = c.args.row in
    let n = c.in_ok-together.together in
    let places = c.args.places.now in
    let many : (row + n) - row ≡ n = omega arith in
    subst (λ m. SettlesMore (take m (drop row tables)) places places c.args.settled.now c.push_pool.new.self) (sym many)
    (record {
      more = take n (drop row tables);
      added = c.in_ok-together.ensures.added;
      settles = all_settle (take n (drop row tables)) places c.in_ok-together.ensures.shaped c.in_ok-together.ensures.homes;
    })

-- and a table
pub settle_next-returns-clause-settled : goal.settle_next-returns-clause-settled
settle_next-returns-clause-settled t c =
    let tables = c.args.tables.now in
    let row = c.args.row in
    let one = c.in_ok-settle_nested.field-0 in
    let places = c.args.places.now in
    let none : c.in_ok-together.together ≡ 0 = omega (arith, c.if-together-gt0.false) in
    let many : (row + 1) - row ≡ 1 = omega arith in
    let before : c.push_pool.new.self ≡ c.args.settled.now =
    c.in_ok-together.ensures.added ∙ ap (λ n. c.args.settled.now ++ take n (drop row tables)) none ∙ append-nil c.args.settled.now in
    subst (λ m. SettlesMore (take m (drop row tables)) places c.settle_nested.new.places c.args.settled.now c.push.new.self) (sym many)
    (record {
      more = one ∷ [];
      added = c.in_ok-push.ensures ∙ ap (λ l. l ++ one ∷ []) before;
      settles = subst (λ ts. SettlesTables ts places c.settle_nested.new.places (one ∷ [])) (sym (one_at tables row c.get.result c.get.ensures))
          (one_settled c.get.result one places c.settle_nested.new.places c.in_ok-settle_nested.ensures);
    })

pub settle_tables-settle_next-requires : goal.settle_tables-settle_next-requires
settle_tables-settle_next-requires t c =
    let tables = c.args.tables.now in
    let row = c.rows.row in
    let x = get_or tables row no_table in
    let len = c.len.ensures in
    let within : row < length tables = omega (arith, len, c.rows-test.true) in
    (omega arith, (within, enough_left table_count IsSettledTable tables c.rows.settled row x c.args.places.now c.rows.places within (same_default tables row x no_table within) c.requires c.rows.invariant))

pub settle_tables-rows-preserved : goal.settle_tables-rows-preserved
settle_tables-rows-preserved t c =
    let tables = c.args.tables.now in
    let row = c.rows.row in
    let next = c.in_ok-row.row in
    let more = c.in_ok-row.ensures.settled in
    let further = c.in_ok-row.ensures.more in
    let all : row + (next - row) ≡ next = omega (arith, further) in
    subst (λ n. SettlesTables (take n tables) c.args.places.now c.settle_next.new.places c.settle_next.new.settled) all
    (settles_several table_count IsSettledTable tables c.rows.settled more.more c.settle_next.new.settled row (next - row) c.args.places.now c.rows.places c.settle_next.new.places c.rows.invariant more.settles more.added)

pub settle_tables-returns : goal.settle_tables-returns
settle_tables-returns t c =
    let tables = c.args.tables.now in
    let len = c.len.ensures in
    let past : length tables ≤ c.rows.row = omega (arith, len, c.rows-test.false) in
    IfOk-then c.finish.result c.finish.ensures
    (λ u e. subst (SettlesTables tables c.args.places.now c.rows.places) (sym e) (settles_all table_count IsSettledTable tables c.rows.settled c.rows.row c.args.places.now c.rows.places past c.rows.invariant))

pub settle_table-returns-then-left : goal.settle_table-returns-then-left
settle_table-returns-then-left t c =
    let table = c.table-table.result.now in
    let cols = c.cols.result.now in
    let view = sym c.table-table.ensures ∙ c.cols.ensures.value in
    let count : table_count c.args.shared.now ≡ counted column_count cols = ap table_count view ∙ table_counted (length table.rows) table.schema cols c.cols.ensures.whole in
    let rest : c.settle_cols.new.places ≡ drop (table_count c.args.shared.now) c.args.places.now = c.in_ok-cols.ensures.rest_is ∙ ap (λ m. drop m c.args.places.now) (sym count) in
    let shaped : HasHomes c.args.shared.now = subst HasHomes (sym view) (HasHomes-columns (length table.rows) table.schema cols c.cols.ensures.whole) in
    let long : length c.settle_cols.new.places ≡ length c.args.places.now = (let first = c.left-left.ensures in let second = c.left.ensures in let test = c.if-left.true in omega (arith, first, second, test)) in
    IfOk-then c.same_table.result c.same_table.ensures
    (λ u e. subst (SettlesTable c.args.shared.now c.args.places.now c.settle_cols.new.places) (sym e) (table_stays c.args.shared.now c.args.places.now c.settle_cols.new.places shaped c.requires rest long))

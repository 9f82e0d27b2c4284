use Rattle.std.proofs.Common.{◌≡◌, List, ◌++◌, map, take, ap, sym, ◌∙◌, append_assoc, arith}
use Rattle.std.specs.List.{flat_map}
use Rattle.std.proofs.lemmas.List.Elements.{All-same}
use Rattle.tables.specs.Columns.{StoredColumn, home_of}
use Rattle.tables.specs.Compact.{IsCompact}
use Rattle.tables.specs.Rests.{blocks_of}
use Rattle.tables.specs.Stored.{stored_of}
use Rattle.tables.specs.declared.cols.Col.{Col}
use Rattle.tables.proofs.Gathered.{flat_all, flat_more, flat_of_map, flat_one}
use Rattle.tables.proofs.pool.push_blocks.Goals as goal

-- the blocks of columns, by what is kept in them
blocks_of_items : (items : List Col) (cols : List StoredColumn) → map stored_of items ≡ cols → flat_map (λ (col : Col). blocks_of (home_of (stored_of col))) items ≡ flat_map blocks_of (map home_of cols)
blocks_of_items items cols is =
    sym (flat_of_map blocks_of home_of (map stored_of items) ∙ flat_of_map (λ (s : StoredColumn). blocks_of (home_of s)) stored_of items)
    ∙ ap (λ cs. flat_map blocks_of (map home_of cs)) is

pub push_blocks-requires : goal.push_blocks-requires
push_blocks-requires c =
    let items = c.as_slice-col-items.result.now in
    let own = λ (col : Col). blocks_of (home_of (stored_of col)) in
    flat_one IsCompact own items c.loop-col.col-index c.col-item.result c.loop-col-test.true c.col-item.is
    (All-same IsCompact (flat_map own items) _ (blocks_of_items items c.args.cols.now c.as_slice-col-items.ensures) c.requires)

pub loop-col-preserved : goal.loop-col-preserved
loop-col-preserved c =
    let items = c.as_slice-col-items.result.now in
    let own = λ (col : Col). blocks_of (home_of (stored_of col)) in
    let start = c.args.blocks.now.items in
    let item = c.col-item.result in
    c.in_ok-push_blocks.ensures
    ∙ ap (λ bs. bs ++ own item) c.loop-col.invariant
    ∙ append_assoc start (flat_map own (take c.loop-col.col-index items)) (own item)
    ∙ ap (λ bs. start ++ bs) (sym (flat_more own items c.loop-col.col-index item c.loop-col-test.true c.col-item.is))

pub returns : goal.returns
returns c =
    let items = c.as_slice-col-items.result.now in
    let own = λ (col : Col). blocks_of (home_of (stored_of col)) in
    let start = c.args.blocks.now.items in
    c.loop-col.invariant
    ∙ ap (λ bs. start ++ bs)
    (flat_all own items c.loop-col.col-index (omega arith) ∙ blocks_of_items items c.args.cols.now c.as_slice-col-items.ensures)

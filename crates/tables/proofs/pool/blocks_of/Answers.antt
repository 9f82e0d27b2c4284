use Rattle.std.proofs.Common.{◌≡◌, ◌++◌, All, map, take, ap, sym, subst, ◌∙◌, arith}
use Rattle.std.specs.List.{flat_map}
use Rattle.tables.specs.Columns.{home_of}
use Rattle.tables.specs.Compact.{IsCompact}
use Rattle.tables.specs.Pools.{blocks_at_home, blocks_of_tables}
use Rattle.tables.specs.Rests.{blocks_of}
use Rattle.tables.specs.Tables.{StoredTable}
use Rattle.tables.proofs.Gathered.{flat_all, flat_more, flat_one}
use Rattle.tables.proofs.pool.blocks_of.Goals as goal

pub push_blocks-requires : goal.push_blocks-requires
push_blocks-requires c =
    let t = c.table-item.result in
    let homes : t.homes ≡ map home_of c.cols.result.now = ap (λ (u : StoredTable). u.homes) (sym c.table.ensures) ∙ ap (λ (u : StoredTable). u.homes) c.cols.ensures.value in
    subst (λ hs. All IsCompact (flat_map blocks_of hs)) homes (flat_one IsCompact blocks_at_home c.args.tables.now c.loop-table.table-index t c.loop-table-test.true c.table-item.is c.requires)

pub loop-table-preserved : goal.loop-table-preserved
loop-table-preserved c =
    let t = c.table-item.result in
    let homes : t.homes ≡ map home_of c.cols.result.now = ap (λ (u : StoredTable). u.homes) (sym c.table.ensures) ∙ ap (λ (u : StoredTable). u.homes) c.cols.ensures.value in
    c.in_ok-push_blocks.ensures
    ∙ ap (λ bs. bs ++ flat_map blocks_of (map home_of c.cols.result.now)) c.loop-table.invariant
    ∙ ap (λ hs. blocks_of_tables (take c.loop-table.table-index c.args.tables.now) ++ flat_map blocks_of hs) (sym homes)
    ∙ sym (flat_more blocks_at_home c.args.tables.now c.loop-table.table-index t c.loop-table-test.true c.table-item.is)

pub returns : goal.returns
returns c = c.loop-table.invariant ∙ flat_all blocks_at_home c.args.tables.now c.loop-table.table-index (omega arith)

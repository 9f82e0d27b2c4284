use Rattle.std.proofs.Common.{get_or, subst}
use Rattle.tables.specs.Pools.{no_table}
use Rattle.tables.specs.Shapes.{HasHomes}
use Rattle.tables.proofs.Homed.{no_views}
use Rattle.tables.proofs.nested.no_inner.Goals as goal

pub unreachable-requires : goal.unreachable-requires
unreachable-requires c =
    let t = get_or c.args.pool.now c.args.number no_table in
    no_views t.schema t.rows c.blocks-blocks.result.now c.args.col (subst HasHomes c.blocks-blocks.ensures.placed c.blocks-blocks.ensures.shaped) c.requires.col_in c.requires.view

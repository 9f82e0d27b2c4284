use Rattle.std.proofs.Common.{◌<◌, length, arith}
use Rattle.tables.proofs.Homed.{bytes_placed, integers_placed, longs_placed, texts_placed}
use Rattle.tables.proofs.pool.homed_col.Goals as goal

pub returns-in_ok-placed_ints-in-I : goal.returns-in_ok-placed_ints-in-I
returns-in_ok-placed_ints-in-I c =
    rw c.in-I.is (integers_placed c.args.rows.now c.args.at c.in_ok-placed_ints-in-I.field-0 c.args.blocks.now (rw c.in-I.is at c.requires.cells) c.in_ok-placed_ints-in-I.ensures.values c.in_ok-placed_ints-in-I.ensures.home)

pub returns-in_ok-placed_ints-in-L : goal.returns-in_ok-placed_ints-in-L
returns-in_ok-placed_ints-in-L c =
    rw c.in-L.is (longs_placed c.args.rows.now c.args.at c.in_ok-placed_ints-in-L.field-0 c.args.blocks.now (rw c.in-L.is at c.requires.cells) c.in_ok-placed_ints-in-L.ensures.values c.in_ok-placed_ints-in-L.ensures.home)

pub returns-in_ok-placed_blobs-in-S : goal.returns-in_ok-placed_blobs-in-S
returns-in_ok-placed_blobs-in-S c =
    let enough = rw c.in-S.is at c.requires.enough in
    let two : 1 < length c.args.blocks.now = omega (arith, enough) in
    rw c.in-S.is
    (texts_placed c.args.rows.now c.args.at c.in_ok-placed_blobs-in-S.field-0 c.args.blocks.now (rw c.in-S.is at c.requires.cells) two c.in_ok-placed_blobs-in-S.ensures.values c.in_ok-placed_blobs-in-S.ensures.home
    (rw c.in-S.is at c.requires.shaped))

pub returns-in_ok-placed_blobs-in-B : goal.returns-in_ok-placed_blobs-in-B
returns-in_ok-placed_blobs-in-B c =
    let enough = rw c.in-B.is at c.requires.enough in
    let two : 1 < length c.args.blocks.now = omega (arith, enough) in
    rw c.in-B.is
    (bytes_placed c.args.rows.now c.args.at c.in_ok-placed_blobs-in-B.field-0 c.args.blocks.now (rw c.in-B.is at c.requires.cells) two c.in_ok-placed_blobs-in-B.ensures.values c.in_ok-placed_blobs-in-B.ensures.home
    (rw c.in-B.is at c.requires.shaped))

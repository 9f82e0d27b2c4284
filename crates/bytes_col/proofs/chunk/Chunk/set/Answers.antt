use Rattle.bytes_col.proofs.Sizes.{size_stays, row_within}
use Rattle.bytes_col.proofs.chunk.Chunk.set.Goals as goal

pub returns-then-overwrite-clause-sizes : goal.returns-then-overwrite-clause-sizes
returns-then-overwrite-clause-sizes c = size_stays c.args.sizes.now c.args.row c.args.value.now _ c.requires.size c.if-overwrite.ensures.size

pub put-requires-clause-row : goal.put-requires-clause-row
put-requires-clause-row c = row_within c.args.sizes.now c.args.row _ c.requires.size

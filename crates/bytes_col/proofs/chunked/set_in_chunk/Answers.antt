use Rattle.bytes_col.proofs.CellLaws.{both_ok}
use Rattle.bytes_col.proofs.Sizes.{sizes_set}
use Rattle.bytes_col.proofs.chunked.set_in_chunk.Goals as goal

pub returns-clause-sizes : goal.returns-clause-sizes
returns-clause-sizes c =
    both_ok c.set_shared.result
    (λ put sized. sizes_set c.args.chunk.now c.set_shared.new.chunk c.args.sizes.now c.set_shared.new.sizes c.args.at c.args.value.now c.requires.sizes put sized)
    c.set_shared.ensures.ok c.set_shared.ensures.sizes

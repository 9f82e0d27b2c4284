use Rattle.bytes_col.proofs.CellLaws.{all_ok}
use Rattle.bytes_col.proofs.Sizes.{sizes_put}
use Rattle.bytes_col.proofs.chunked.insert_in_chunk.Goals as goal

pub returns-clause-sizes : goal.returns-clause-sizes
returns-clause-sizes g c =
    all_ok c.insert_shared.result
    (λ put sizes home. sizes_put c.args.chunk.now c.insert_shared.new.chunk c.args.sizes.now c.insert_shared.new.sizes c.args.at 1 c.args.value.now c.requires.sizes put sizes home)
    c.insert_shared.ensures.ok c.insert_shared.ensures.sizes c.insert_shared.ensures.home

use Rattle.bytes_col.proofs.CellLaws.{all_ok}
use Rattle.bytes_col.proofs.Sizes.{sizes_taken}
use Rattle.bytes_col.proofs.chunked.remove_from_chunk.Goals as goal

pub returns-clause-sizes : goal.returns-clause-sizes
returns-clause-sizes g c =
    all_ok c.remove_shared.result
    (λ taken sizes home. sizes_taken c.args.chunk.now c.remove_shared.new.chunk c.args.sizes.now c.remove_shared.new.sizes c.args.at 1 c.requires.sizes taken sizes home)
    c.remove_shared.ensures.ok c.remove_shared.ensures.sizes c.remove_shared.ensures.home

use Rattle.segments.specs.Joined.{joined}
use Rattle.bytes_col.proofs.Sizes.{sizes_taken}
use Rattle.bytes_col.proofs.chunked.Chunked.remove_anew.Goals as goal

pub returns-clause-sizes : goal.returns-clause-sizes
returns-clause-sizes g c =
    sizes_taken (joined c.args.self.now) (joined c.in_ok-fresh.fresh) c.args.sizes.now c.remove_then.new.self c.args.at c.args.count c.requires.sizes c.in_ok-fresh.ensures c.in_ok-remove_then.ensures.values c.in_ok-remove_then.ensures.home

use Rattle.std.proofs.Common.{◌≡◌, pos, length, to_z, w64, rules}
use Rattle.segments.specs.Joined.{joined}
use Rattle.bytes_col.proofs.Sizes.{sizes_put}
use Rattle.bytes_col.proofs.chunked.Chunked.insert_anew.Goals as goal

pub returns-clause-sizes : goal.returns-clause-sizes
returns-clause-sizes g c =
    let size : to_z w64 (length c.args.value.now) ≡ pos (length c.args.value.now) = search rules in
    sizes_put (joined c.args.self.now) (joined c.in_ok-fresh.fresh) c.args.sizes.now c.insert_then.new.self c.args.at c.args.count c.args.value.now c.requires.sizes c.in_ok-fresh.ensures
    (rw size at c.in_ok-insert_then.ensures.values) c.in_ok-insert_then.ensures.home

use Rattle.std.proofs.Common.{[]}
use Rattle.std.proofs.lemmas.Result.{on_ok_weaker}
use Rattle.segments.specs.Joined.{joined}
use Rattle.segments.proofs.Joined.{set_place, read_place}
use Rattle.bytes_col.proofs.CellLaws.{both_ok}
use Rattle.bytes_col.proofs.Columns.{IsSpine-set}
use Rattle.bytes_col.proofs.Sizes.{sizes_set, size_at}
use Rattle.bytes_col.proofs.spine.Spine.set.Goals as goal

pub invariant_of-self-2 : goal.invariant_of-self-2
invariant_of-self-2 c =
    IsSpine-set c.self.inside.chunks c.self.inside.ends c.args.at c.find-place.result c.in_ok-chunk.chunk.now c.set_shared.new.chunk
    c.self.invariant (rw (← c.self.view_is) at c.find-place.ensures.place) c.in_ok-chunk.ensures.value c.set_shared.ensures.len

pub returns-clause-ok : goal.returns-clause-ok
returns-clause-ok c =
    rw (← c.self.view_is)
    (on_ok_weaker c.set_shared.result
    (set_place c.self.inside.chunks c.args.at c.find-place.result c.in_ok-chunk.chunk.now
    (rw (← c.self.view_is) at c.find-place.ensures.place) c.in_ok-chunk.ensures.value c.set_shared.new.chunk c.args.value.now)
    c.set_shared.ensures.ok)

pub returns-clause-sizes : goal.returns-clause-sizes
returns-clause-sizes c =
    (both_ok c.set_shared.result
    (λ put sized. sizes_set (joined c.self.inside.chunks) _ c.args.sizes.now c.set_shared.new.sizes c.args.at c.args.value.now (rw (← c.self.view_is) at c.requires.sizes)
    (set_place c.self.inside.chunks c.args.at c.find-place.result c.in_ok-chunk.chunk.now
    (rw (← c.self.view_is) at c.find-place.ensures.place) c.in_ok-chunk.ensures.value c.set_shared.new.chunk c.args.value.now put) sized)
    c.set_shared.ensures.ok c.set_shared.ensures.sizes)

pub set_shared-requires-clause-size : goal.set_shared-requires-clause-size
set_shared-requires-clause-size c =
    size_at (joined c.self.inside.chunks) c.args.sizes.now c.args.at _ (rw (← c.self.view_is) at c.requires.sizes) (rw (← c.self.view_is) at c.requires.at)
    (read_place c.self.inside.chunks c.args.at c.find-place.result c.in_ok-chunk.chunk.now (rw (← c.self.view_is) at c.find-place.ensures.place) c.in_ok-chunk.ensures.value [])

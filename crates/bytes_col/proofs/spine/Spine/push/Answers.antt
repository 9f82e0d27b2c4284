use Rattle.std.proofs.Common.{◌≡◌, ◌-◌, suc, arith, length}
use Rattle.segments.specs.Joined.{joined}
use Rattle.segments.proofs.Joined.{joined-pushed}
use Rattle.segments.proofs.Counted.{segments_len, segments_count, last_count}
use Rattle.bytes_col.proofs.Columns.{IsSpine-pushed, last_room}
use Rattle.bytes_col.proofs.Sizes.{sizes_pushed}
use Rattle.bytes_col.proofs.spine.Spine.push.Goals as goal

pub extend_last-requires : goal.extend_last-requires
extend_last-requires c =
    let takes = rw (← c.self.view_is) at c.requires.takes in
    let few = rw (← c.self.view_is) at c.requires.few in
    let last = c.len-last.result - 1 in
    let len : suc last ≡ length c.self.inside.chunks = omega (arith, c.len-last.ensures.len, takes.some) in
    let room = last_room c.self.inside.chunks c.in_ok-chunk.chunk.now last takes len c.in_ok-chunk.ensures.value in
    let count = last_count c.self.inside.chunks c.self.inside.ends c.self.invariant.counted c.in_ok-chunk.chunk.now last len c.in_ok-chunk.ensures.value in (
      omega arith,
      (
        omega (arith, takes.some, segments_count c.self.inside.chunks c.self.inside.ends c.self.invariant.counted),
        (omega (arith, room, count), omega (arith, segments_len c.self.inside.chunks c.self.inside.ends c.self.invariant.counted)),
      ),
    )

pub invariant_of-self-2 : goal.invariant_of-self-2
invariant_of-self-2 c =
    let takes = rw (← c.self.view_is) at c.requires.takes in
    let last = c.len-last.result - 1 in
    let len : suc last ≡ length c.self.inside.chunks = omega (arith, c.len-last.ensures.len, takes.some) in
    rw c.in_ok-push_shared.ensures.ok
    (IsSpine-pushed c.self.inside.chunks c.self.inside.ends c.extend_last.new.self c.in_ok-chunk.chunk.now c.args.value.now last
    c.self.invariant len c.in_ok-chunk.ensures.value c.extend_last.ensures)

pub returns-clause-ok : goal.returns-clause-ok
returns-clause-ok c =
    let takes = rw (← c.self.view_is) at c.requires.takes in
    let last = c.len-last.result - 1 in
    let len : suc last ≡ length c.self.inside.chunks = omega (arith, c.len-last.ensures.len, takes.some) in
    rw (c.in_ok-push_shared.ensures.ok, ← c.self.view_is)
    (joined-pushed c.self.inside.chunks c.in_ok-chunk.chunk.now c.args.value.now last len c.in_ok-chunk.ensures.value)

pub returns-clause-sizes : goal.returns-clause-sizes
returns-clause-sizes c =
    let takes = rw (← c.self.view_is) at c.requires.takes in
    let last = c.len-last.result - 1 in
    let len : suc last ≡ length c.self.inside.chunks = omega (arith, c.len-last.ensures.len, takes.some) in
    sizes_pushed (joined c.self.inside.chunks) _ c.args.sizes.now c.push_shared.new.sizes c.args.value.now (rw (← c.self.view_is) at c.requires.sizes)
    (rw c.in_ok-push_shared.ensures.ok (joined-pushed c.self.inside.chunks c.in_ok-chunk.chunk.now c.args.value.now last len c.in_ok-chunk.ensures.value))
    c.in_ok-push_shared.ensures.sizes c.in_ok-push_shared.ensures.home

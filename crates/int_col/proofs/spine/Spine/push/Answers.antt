use Rattle.std.proofs.Common.{◌≡◌, ◌-◌, suc, arith, rules, length, FitsSigned, w64}
use Rattle.std.proofs.lemmas.Int.{to_z-of_z}
use Rattle.segments.proofs.Joined.{joined-pushed}
use Rattle.segments.proofs.Counted.{segments_len, segments_count, last_count}
use Rattle.int_col.proofs.Columns.{IsSpine-pushed, last_room}
use Rattle.int_col.proofs.spine.Spine.push.Goals as goal

pub extend_last-requires : goal.extend_last-requires
extend_last-requires c =
    let takes = rw (← c.self.view_is) at c.requires.takes in
    let few = rw (← c.self.view_is) at c.requires.few in
    let last = c.len-last.result - 1 in
    let len : suc last ≡ length c.self.inside.segments = omega (arith, c.len-last.ensures.len, takes.some) in
    let room = last_room c.self.inside.segments c.in_ok-segment.segment.now c.args.value last takes len c.in_ok-segment.ensures.value in
    let count = last_count c.self.inside.segments c.self.inside.ends c.self.invariant.counted c.in_ok-segment.segment.now last len c.in_ok-segment.ensures.value in (
      omega arith,
      (
        omega (arith, takes.some, segments_count c.self.inside.segments c.self.inside.ends c.self.invariant.counted),
        (omega (arith, room, count), omega (arith, segments_len c.self.inside.segments c.self.inside.ends c.self.invariant.counted)),
      ),
    )

pub invariant_of-self-2 : goal.invariant_of-self-2
invariant_of-self-2 c =
    let fits : FitsSigned w64 c.args.value = search rules in
    let takes = rw (← c.self.view_is) at c.requires.takes in
    let last = c.len-last.result - 1 in
    let len : suc last ≡ length c.self.inside.segments = omega (arith, c.len-last.ensures.len, takes.some) in
    let room = last_room c.self.inside.segments c.in_ok-segment.segment.now c.args.value last takes len c.in_ok-segment.ensures.value in
    rw (c.in_ok-push_shared.ensures.ok, to_z-of_z w64 c.args.value fits)
    (IsSpine-pushed c.self.inside.segments c.self.inside.ends c.extend_last.new.self c.in_ok-segment.segment.now c.args.value last
    c.self.invariant len c.in_ok-segment.ensures.value room c.extend_last.ensures)

pub returns-clause-ok : goal.returns-clause-ok
returns-clause-ok c =
    let fits : FitsSigned w64 c.args.value = search rules in
    let takes = rw (← c.self.view_is) at c.requires.takes in
    let last = c.len-last.result - 1 in
    let len : suc last ≡ length c.self.inside.segments = omega (arith, c.len-last.ensures.len, takes.some) in
    rw (c.in_ok-push_shared.ensures.ok, to_z-of_z w64 c.args.value fits, ← c.self.view_is)
    (joined-pushed c.self.inside.segments c.in_ok-segment.segment.now c.args.value last len c.in_ok-segment.ensures.value)

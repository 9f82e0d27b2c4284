use Rattle.std.proofs.Common.{◌≡◌, ◌-◌, suc, arith, rules, length}
use Rattle.std.specs.Vec.{vec_len}
use Rattle.segments.proofs.Joined.{joined-pushed}
use Rattle.segments.proofs.Counted.{segments_len, segments_pushed}
use Rattle.segments.proofs.Grouped.{room_in_last}
use Rattle.segments.proofs.groups.Groups.push.Goals as goal

pub extend_last-requires : goal.extend_last-requires
extend_last-requires g c =
    let few = rw (← c.self.view_is) at c.requires in
    let room = room_in_last c.self.inside.groups.items c.self.inside.ends c.self.invariant (rw c.deref.ensures.value at c.if-has_last_room.ensures) in (
      omega arith,
      (room.0, (room.1, omega (arith, segments_len c.self.inside.groups.items c.self.inside.ends c.self.invariant))),
    )

pub invariant_of-self-then-has_last_room : goal.invariant_of-self-then-has_last_room
invariant_of-self-then-has_last_room g c =
    let groups : vec_len c.self.inside.groups ≡ length c.self.inside.groups.items = search rules in
    let room = rw c.deref.ensures.value at c.if-has_last_room.ensures in
    let last = c.len-last.result - 1 in
    let len : suc last ≡ length c.self.inside.groups.items = omega (arith, c.len-last.ensures, room.some) in
    rw c.in_ok-push_shared.ensures.ok
    (segments_pushed c.self.inside.groups.items c.self.inside.ends c.self.invariant c.index_mut.result.now last len c.index_mut.ensures.value c.extend_last.new.self c.args.part c.extend_last.ensures)

pub returns-then-has_last_room-clause-ok : goal.returns-then-has_last_room-clause-ok
returns-then-has_last_room-clause-ok g c =
    let groups : vec_len c.self.inside.groups ≡ length c.self.inside.groups.items = search rules in
    let room = rw c.deref.ensures.value at c.if-has_last_room.ensures in
    let last = c.len-last.result - 1 in
    let len : suc last ≡ length c.self.inside.groups.items = omega (arith, c.len-last.ensures, room.some) in
    rw (c.in_ok-push_shared.ensures.ok, ← c.self.view_is)
    (joined-pushed c.self.inside.groups.items c.index_mut.result.now c.args.part last len c.index_mut.ensures.value)

use Rattle.std.proofs.Common.{◌+◌, ◌-◌, ℕ, ap, FitsSigned, w64, rules, arith}
use Rattle.std.proofs.lemmas.Int.{to_z-of_z}
use Rattle.int_col.proofs.Segments.{count_is}
use Rattle.int_col.proofs.PackedSplices.{spliced_segment}
use Rattle.int_col.proofs.segment.Segment.splice_then.Goals as goal

pub overflow_sub-size : goal.overflow_sub-size
overflow_sub-size g c =
    omega (arith, count_is c.self.inside.count c.self.inside.width c.self.inside.bytes.items c.args.self.now c.self.view_is, c.requires.applies.within)

pub splice_packed-requires-clause-within : goal.splice_packed-requires-clause-within
splice_packed-requires-clause-within g c =
    omega (arith, count_is c.self.inside.count c.self.inside.width c.self.inside.bytes.items c.args.self.now c.self.view_is, c.requires.applies.within)

pub splice_packed-requires-clause-room : goal.splice_packed-requires-clause-room
splice_packed-requires-clause-room g c =
    omega (arith, count_is c.self.inside.count c.self.inside.width c.self.inside.bytes.items c.args.self.now c.self.view_is, c.requires.room)

pub splice_packed-requires-clause-held : goal.splice_packed-requires-clause-held
splice_packed-requires-clause-held g c =
    let fits : FitsSigned w64 c.args.value = search rules in
    let keeps = rw (c.if-not-keeps_width_after.false, to_z-of_z w64 c.args.value fits) at c.keeps_width_after.ensures in
    let least = keeps c.self.inside.width (rw c.self.view_is at c.self.invariant.packed.least) in
    rw (c.in_ok-reserve.ensures.items, to_z-of_z w64 c.args.value fits, c.self.view_is) least.held

pub invariant_of-self-2 : goal.invariant_of-self-2
invariant_of-self-2 g c =
    let e = c.args.splice.now in
    let fits : FitsSigned w64 c.args.value = search rules in
    let n = count_is c.self.inside.count c.self.inside.width c.self.inside.bytes.items c.args.self.now c.self.view_is in
    let keeps = rw (c.if-not-keeps_width_after.false, to_z-of_z w64 c.args.value fits) at c.keeps_width_after.ensures in
    let least = keeps c.self.inside.width (rw c.self.view_is at c.self.invariant.packed.least) in
    let packed = rw (c.in_ok-reserve.ensures.items, to_z-of_z w64 c.args.value fits) at c.splice_packed.ensures in
    let size : ℕ = e.at + e.count + (c.self.inside.count - e.end) in
    (spliced_segment c.self.inside.count size c.self.inside.width c.self.inside.bytes.items c.splice_packed.new.bytes.items c.args.self.now e c.args.value c.self.invariant c.self.view_is
    c.requires.applies.order c.requires.applies.within (ap (λ k. e.at + e.count + (k - e.end)) n) (omega (arith, n, c.requires.room)) packed least).0

pub returns-clause-ok : goal.returns-clause-ok
returns-clause-ok g c =
    let e = c.args.splice.now in
    let fits : FitsSigned w64 c.args.value = search rules in
    let n = count_is c.self.inside.count c.self.inside.width c.self.inside.bytes.items c.args.self.now c.self.view_is in
    let keeps = rw (c.if-not-keeps_width_after.false, to_z-of_z w64 c.args.value fits) at c.keeps_width_after.ensures in
    let least = keeps c.self.inside.width (rw c.self.view_is at c.self.invariant.packed.least) in
    let packed = rw (c.in_ok-reserve.ensures.items, to_z-of_z w64 c.args.value fits) at c.splice_packed.ensures in
    let size : ℕ = e.at + e.count + (c.self.inside.count - e.end) in
    (spliced_segment c.self.inside.count size c.self.inside.width c.self.inside.bytes.items c.splice_packed.new.bytes.items c.args.self.now e c.args.value c.self.invariant c.self.view_is
    c.requires.applies.order c.requires.applies.within (ap (λ k. e.at + e.count + (k - e.end)) n) (omega (arith, n, c.requires.room)) packed least).1

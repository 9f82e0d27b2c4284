use Rattle.std.proofs.Common.{◌≡◌, ◌∙◌, ap, FitsSigned, w64, rules, arith, length}
use Rattle.std.proofs.lemmas.Int.{to_z-of_z}
use Rattle.std.proofs.lemmas.List.{take_at}
use Rattle.bit_pack.specs.Packed.{values_from}
use Rattle.int_col.proofs.Segments.{set_segment, held_when_set}
use Rattle.int_col.proofs.segment.Segment.set.Goals as goal

pub put-requires-clause-holds : goal.put-requires-clause-holds
put-requires-clause-holds c =
    let fits : FitsSigned w64 c.args.value = search rules in
    let keeps = rw (c.if-not-keeps_width.false, to_z-of_z w64 c.args.value fits) at c.keeps_width.ensures in
    rw (to_z-of_z w64 c.args.value fits)
    (held_when_set c.self.inside.width c.args.self.now c.args.at c.args.value c.requires (keeps c.self.inside.width (rw c.self.view_is at c.self.invariant.packed.least)))

pub invariant_of-self : goal.invariant_of-self
invariant_of-self c =
    let fits : FitsSigned w64 c.args.value = search rules in
    let keeps = rw (c.if-not-keeps_width.false, to_z-of_z w64 c.args.value fits) at c.keeps_width.ensures in
    let len : length c.put.new.bytes ≡ c.self.inside.bytes.len = omega (arith, c.put.auto.bytes, c.deref_mut.ensures.len) in
    let least = keeps c.self.inside.width (rw c.self.view_is at c.self.invariant.packed.least) in
    let put = rw (c.deref_mut.ensures.value, to_z-of_z w64 c.args.value fits) at c.put.ensures in
    rw take_at
    (set_segment c.self.inside.count c.self.inside.width c.self.inside.bytes.items c.put.new.bytes c.args.self.now c.args.at c.args.value c.self.invariant c.self.view_is c.requires put least).0

pub returns-clause-ok : goal.returns-clause-ok
returns-clause-ok c =
    let fits : FitsSigned w64 c.args.value = search rules in
    let keeps = rw (c.if-not-keeps_width.false, to_z-of_z w64 c.args.value fits) at c.keeps_width.ensures in
    let len : length c.put.new.bytes ≡ c.self.inside.bytes.len = omega (arith, c.put.auto.bytes, c.deref_mut.ensures.len) in
    let least = keeps c.self.inside.width (rw c.self.view_is at c.self.invariant.packed.least) in
    let put = rw (c.deref_mut.ensures.value, to_z-of_z w64 c.args.value fits) at c.put.ensures in
    ap (λ bytes. values_from c.self.inside.width bytes 0 c.self.inside.count) (take_at c.put.new.bytes _ c.self.inside.bytes.len len)
    ∙ (set_segment c.self.inside.count c.self.inside.width c.self.inside.bytes.items c.put.new.bytes c.args.self.now c.args.at c.args.value c.self.invariant c.self.view_is c.requires put least).1

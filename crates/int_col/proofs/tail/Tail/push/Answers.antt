use Rattle.std.proofs.Common.{◌≡◌, ◌∙◌, ◌+◌, ◌<◌, ap, FitsSigned, w64, rules, arith, length}
use Rattle.std.proofs.lemmas.Int.{to_z-of_z}
use Rattle.std.proofs.lemmas.List.{take_at}
use Rattle.bit_pack.specs.Packed.{values_from}
use Rattle.int_col.proofs.Fills.{packed_len-rises}
use Rattle.int_col.proofs.Segments.{count_is, pushed_segment}
use Rattle.int_col.proofs.tail.Tail.push.Goals as goal

pub lengthen-requires : goal.lengthen-requires
lengthen-requires c =
    let n = count_is c.self.inside.count c.self.inside.width c.self.inside.bytes.items c.args.self.now c.self.view_is in
    let room : c.self.inside.count < 2048 = omega (arith, c.requires.room) in
    omega (arith, c.packed_len-len.ensures, c.self.invariant.roomy, packed_len-rises c.self.inside.width (c.self.inside.count + 1) 2048 (omega arith))

pub invariant_of-self : goal.invariant_of-self
invariant_of-self c =
    let fits : FitsSigned w64 c.args.value = search rules in
    let n = count_is c.self.inside.count c.self.inside.width c.self.inside.bytes.items c.args.self.now c.self.view_is in
    let room : c.self.inside.count < 2048 = omega (arith, c.requires.room) in
    let len : length c.put.new.bytes ≡ c.lengthen.new.bytes.len = omega (arith, c.put.auto.bytes, c.deref_mut.ensures.len) in
    let put = rw (c.deref_mut.ensures.value, to_z-of_z w64 c.args.value fits) at c.put.ensures in
    let held = c.requires.holds c.self.inside.width (rw c.self.view_is at c.self.invariant.segment.packed.least) in
    rw take_at
    (record {
      segment = (pushed_segment c.self.inside.count c.packed_len-len.result c.self.inside.width c.self.inside.bytes.items c.lengthen.new.bytes.items c.put.new.bytes c.args.self.now c.args.value
          c.self.invariant.segment c.self.view_is room held c.packed_len-len.ensures c.lengthen.ensures.items put).0;
      roomy = omega (arith, c.self.invariant.roomy, c.lengthen.ensures.room);
    })

pub returns : goal.returns
returns c =
    let fits : FitsSigned w64 c.args.value = search rules in
    let n = count_is c.self.inside.count c.self.inside.width c.self.inside.bytes.items c.args.self.now c.self.view_is in
    let room : c.self.inside.count < 2048 = omega (arith, c.requires.room) in
    let len : length c.put.new.bytes ≡ c.lengthen.new.bytes.len = omega (arith, c.put.auto.bytes, c.deref_mut.ensures.len) in
    let put = rw (c.deref_mut.ensures.value, to_z-of_z w64 c.args.value fits) at c.put.ensures in
    let held = c.requires.holds c.self.inside.width (rw c.self.view_is at c.self.invariant.segment.packed.least) in
    ap (λ bytes. values_from c.self.inside.width bytes 0 (c.self.inside.count + 1)) (take_at c.put.new.bytes _ c.lengthen.new.bytes.len len)
    ∙ (pushed_segment c.self.inside.count c.packed_len-len.result c.self.inside.width c.self.inside.bytes.items c.lengthen.new.bytes.items c.put.new.bytes c.args.self.now c.args.value
    c.self.invariant.segment c.self.view_is room held c.packed_len-len.ensures c.lengthen.ensures.items put).1

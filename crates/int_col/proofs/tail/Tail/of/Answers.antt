use Rattle.std.proofs.Common.{◌≡◌, ◌∙◌, refl, ap, arith, length}
use Rattle.std.proofs.lemmas.List.{take_at}
use Rattle.bit_pack.specs.Packed.{values_from}
use Rattle.int_col.proofs.Segments.{segment_made}
use Rattle.int_col.proofs.tail.Tail.of.Goals as goal

pub invariant_of-result : goal.invariant_of-result
invariant_of-result c =
    let len : length c.pack_into.new.into ≡ c.resize.new.self.len = omega (arith, c.pack_into.auto.into, c.deref_mut.ensures.len) in
    rw take_at
    (record {
      segment = (segment_made (length c.args.values.now) c.width_for-width.result c.args.values.now c.pack_into.new.into c.pack_into.ensures c.width_for-width.ensures.least refl c.requires).0;
      roomy = omega (arith, c.packed_len.ensures, c.in_ok-bytes.ensures.capacity, c.resize.ensures.capacity);
    })

pub returns : goal.returns
returns c =
    let len : length c.pack_into.new.into ≡ c.resize.new.self.len = omega (arith, c.pack_into.auto.into, c.deref_mut.ensures.len) in
    ap (λ bytes. values_from c.width_for-width.result bytes 0 (length c.args.values.now)) (take_at c.pack_into.new.into _ c.resize.new.self.len len)
    ∙ (segment_made (length c.args.values.now) c.width_for-width.result c.args.values.now c.pack_into.new.into c.pack_into.ensures c.width_for-width.ensures.least refl c.requires).1

use Rattle.std.proofs.Common.{◌≡◌, ◌∙◌, ◌+◌, ◌-◌, ◌*◌, ◌/◌, ◌%◌, ◌≤◌, ◌++◌, ℕ, ℤ, List, min, refl, ap, sym, arith, length, take, drop}
use Rattle.std.proofs.lemmas.List.{take_at, length-take-le}
use Rattle.bit_pack.specs.Packed.{packing, packed_len}
use Rattle.segments.specs.Joined.{joined}
use Rattle.int_col.proofs.Fills.{block_place, part_bytes, packed_len-few}
use Rattle.int_col.proofs.segmented.Segmented.fill_some.Goals as goal

pub overflow_mul-first : goal.overflow_mul-first
overflow_mul-first c =
    let place = block_place c.args.width c.packed_len-block_len.result c.args.from (length c.args.into.now) (length (joined c.args.self.now)) c.packed_len-block_len.ensures c.requires.some c.requires.within in
    omega (arith, place.1, c.len-all.ensures.len, c.len-all.ensures.few)

pub returns-clause-bytes : goal.returns-clause-bytes
returns-clause-bytes c =
    let xs : List ℤ = joined c.args.self.now in
    let w = c.args.width in
    let size = c.packed_len-block_len.result in
    let place = block_place w size c.args.from (length c.args.into.now) (length xs) c.packed_len-block_len.ensures c.requires.some c.requires.within in
    let b : ℕ = c.args.from / size in
    let f : ℕ = 512 * b in
    let skip : ℕ = c.args.from % size in
    let n : ℕ = c.copy_from.result in
    let count : c.min-count.result ≡ min 512 (length xs - f) = omega (arith, c.min-count.ensures, c.len-all.ensures.len) in
    let few : c.min-count.result ≤ 512 = omega arith in
    let len : c.packed_len-len.result ≡ packed_len w c.min-count.result = c.packed_len-len.ensures in
    let short : c.packed_len-len.result ≤ 4096 = omega (arith, packed_len-few w c.min-count.result) in
    let packed : length c.pack_block.new.into ≡ c.packed_len-len.result = c.pack_block.auto.into ∙ length-take-le c.packed_len-len.result _ short in
    let values = length-take-le c.min-count.result _ few in
    let reach : skip + n ≤ length c.pack_block.new.into = rw take_at at c.copy_from.ensures.there in
    let slice = take_at c.pack_block.new.into _ c.packed_len-len.result packed ∙ c.pack_block.ensures ∙ ap (λ k. packing w (take k (drop f xs))) values in
    c.copy_from.ensures.bytes
    ∙ ap (λ ys. ys ++ drop n c.args.into.now)
    (ap (λ ys. take n (drop skip ys)) slice
    ∙ sym (part_bytes w xs c.args.from f b c.min-count.result skip n c.requires.least.held refl (omega (arith, place.1)) count (sym place.2)
    (omega (arith, reach, len, packed))))

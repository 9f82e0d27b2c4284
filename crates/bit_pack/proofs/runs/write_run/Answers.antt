use Rattle.std.proofs.Common.{◌≡◌, ◌-◌, ◌<◌, ◌++◌, ℤ, List, length, take, replicate, get_or, pos, to_z, of_z, sym, ap, subst, ◌∙◌, arith}
use Rattle.std.specs.Int.{w64}
use Rattle.std.proofs.lemmas.Int.{to_z-of_z}
use Rattle.std.proofs.lemmas.List.{length-append, length-take, length-replicate}
use Rattle.bit_pack.specs.Width.{Holds}
use Rattle.bit_pack.specs.Packed.{PackedAt, packed_len}
use Rattle.bit_pack.proofs.LeastWidth.{held_fits}
use Rattle.bit_pack.proofs.Changes.{packed-zeros, packed-set, set-next}
use Rattle.bit_pack.proofs.runs.write_run.Goals as goal

pub loop-at-init : goal.loop-at-init
loop-at-init g c =
    let w = g.L.Lane.width in
    let n = length c.args.values.now in
    let count : n ≡ n - 0 = omega arith in
    subst (PackedAt w (replicate (n - 0) (pos 0))) (sym c.requires.zeros) (packed-zeros w (n - 0) (length c.args.into.now) (c.requires.len ∙ ap (packed_len w) count))

pub loop-at-preserved : goal.loop-at-preserved
loop-at-preserved g c =
    let w = g.L.Lane.width in
    let at = c.loop-at.at in
    let vs = c.args.values.now in
    let v = to_z w64 (of_z w64 (get_or vs at (pos 0))) in
    let so_far = take at vs ++ replicate (length vs - at) (pos 0) in
    let here = c.requires.held.each at (pos 0) c.loop-at-test.true in
    let is : v ≡ get_or vs at (pos 0) = to_z-of_z w64 (get_or vs at (pos 0)) (held_fits w (get_or vs at (pos 0)) here) in
    let held : Holds w v = subst (Holds w) (sym is) here in
    let inside : at < length so_far = simp (length-append, length-take, length-replicate) (omega arith) in
    let set_here = packed-set w so_far c.loop-at.into c.write.new.bytes at v c.loop-at.invariant inside held (c.write.ensures c.loop-at.invariant.octets) in
    subst (λ (xs : List ℤ). PackedAt w xs c.write.new.bytes) (set-next vs at v (pos 0) c.loop-at-test.true is) set_here

use Rattle.std.proofs.Common.{ℤ, ◌∷◌, [], pos, to_z, fold, sym, ap, ◌∙◌, arith}
use Rattle.std.proofs.lemmas.Grind.{fold-append}
use Rattle.std.proofs.lemmas.Int.{to_z-of_z}
use Rattle.std.specs.Int.{int_min, int_max, w64}
use Rattle.bit_pack.specs.Packed.{value_at, values_from}
use Rattle.bit_pack.proofs.Changes.{values_from-more}
use Rattle.bit_pack.proofs.runs.range_in.Goals as goal

pub loop-at-preserved : goal.loop-at-preserved
loop-at-preserved g c =
    let w = g.L.Lane.width in
    let bytes = c.args.bytes.now in
    let at = c.loop-at.at in
    let so_far = values_from w bytes 0 at in
    let next = value_at w bytes at in
    let more = values_from-more w bytes 0 at at (omega arith) in
    let read = to_z-of_z w64 c.read-value.result (record { sfits = c.read-value.type_inv }) ∙ c.read-value.ensures in
    let low = ap (fold int_min (pos 0)) more ∙ fold-append int_min (pos 0) so_far (next ∷ []) in
    let high = ap (fold int_max (pos 0)) more ∙ fold-append int_max (pos 0) so_far (next ∷ []) in (
      to_z-of_z w64 c.min-low.result (record { sfits = c.min-low.type_inv }) ∙ c.min-low.ensures.value ∙ ap (λ (z : ℤ). int_min (to_z w64 c.loop-at.low-bits) z) read ∙ ap (λ (z : ℤ). int_min z next) c.loop-at.invariant.0 ∙ sym low,
      to_z-of_z w64 c.max-high.result (record { sfits = c.max-high.type_inv }) ∙ c.max-high.ensures.value ∙ ap (λ (z : ℤ). int_max (to_z w64 c.loop-at.high-bits) z) read ∙ ap (λ (z : ℤ). int_max z next) c.loop-at.invariant.1 ∙ sym high,
    )

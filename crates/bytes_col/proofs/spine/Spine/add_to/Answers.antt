use Rattle.std.proofs.Common.{◌-◌, ◌++◌, ap, ◌∙◌, take, drop, arith}
use Rattle.std.proofs.lemmas.List.{append_assoc}
use Rattle.bytes_col.specs.Parts.{added}
use Rattle.segments.specs.Joined.{joined}
use Rattle.bytes_col.proofs.Splices.{parts_next}
use Rattle.bytes_col.proofs.spine.Spine.add_to.Goals as goal

pub loop-at-preserved : goal.loop-at-preserved
loop-at-preserved c =
    let xs = joined c.args.self.now in
    let from = c.args.from in
    let at = c.loop-at.at in
    let next = c.in_ok-at.at in
    record {
      order = omega (arith, c.loop-at.invariant.order, c.in_ok-at.ensures.more);
      within = omega (arith, c.in_ok-at.ensures.in_range);
      values =
          c.in_ok-at.ensures.values
          ∙ ap (λ z. z ++ take (next - at) (drop at xs)) c.loop-at.invariant.values
          ∙ append_assoc (added c.args.parts.now) (take (at - from) (drop from xs)) (take (next - at) (drop at xs))
          ∙ ap (λ z. added c.args.parts.now ++ z) (parts_next xs from at next c.loop-at.invariant.order (omega (arith, c.in_ok-at.ensures.more)));
    }

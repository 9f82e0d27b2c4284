use Rattle.std.proofs.Common.{◌≡◌, ◌+◌, ◌-◌, ◌∷◌, [], ℕ, List, take, drop, ap, refl, ◌∙◌, arith}
use Rattle.std.proofs.lemmas.Slice.{pushed}
use Rattle.places.proofs.Turns.{chunk_more}
use Rattle.places.proofs.edits.chunked.Goals as goal

pub loop-from-preserved : goal.loop-from-preserved
loop-from-preserved c =
    let from : ℕ = c.loop-from.from in
    let n : ℕ = c.min.result in
    let x : List ℕ = c.in_ok-of.field-0 in
    let t = c.loop-from-test.true in
    let m = c.min.ensures in
    let same : from + n - from ≡ n = omega arith in
    let new = pushed (x ∷ []) refl c.in_ok-push.was c.push.ensures.items in
    record {
      items = chunk_more c.args.positions.now c.loop-from.chunks.items c.push.new.self.items x from n c.loop-from.invariant.items new (c.in_ok-of.ensures ∙ ap (λ k. take k (drop from c.args.positions.now)) same);
      within = omega arith;
    }

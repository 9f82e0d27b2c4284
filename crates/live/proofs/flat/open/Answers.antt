use Rattle.std.proofs.Common.{◌≡◌, ◌<◌, ℕ, length, get_or, set, arith, ap, ◌∙◌}
use Rattle.std.proofs.lemmas.Bool.Decides.{nat_tests}
use Rattle.std.proofs.lemmas.List.{get_or_default}
use Rattle.std.proofs.lemmas.List.Edits.{map_over_more}
use Rattle.live.proofs.flat.open.Goals as goal
use Rattle.live.specs.Placing.{opened}
use Rattle.live.proofs.flat.open.Goals.{then-k-p, else-k-p}

pub loop-k-preserved : goal.loop-k-preserved
loop-k-preserved c =
    let i = c.loop-k.k-index in
    let x : ℕ = get_or c.loop-k.kept i 0 in
    let same : c.if-k-p.k ≡ opened c.args.p x = elim c.if-k-p.branch [ then-k-p w ↦ grind (arith, nat_tests) | else-k-p w ↦ grind (arith, nat_tests) ] in
    let t = c.loop-k-test.true in
    let long = c.loop-k.auto.kept in
    let within : i < length c.loop-k.kept = omega arith in
    ap (set c.loop-k.kept i) same ∙ map_over_more (opened c.args.p) c.args.kept.now c.loop-k.kept i x t c.loop-k.invariant (get_or_default c.loop-k.kept i 0 x within)

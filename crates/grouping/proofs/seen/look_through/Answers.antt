use Rattle.std.proofs.Common.{◌≡◌, length, subst, arith}
use Rattle.grouping.specs.Index.{Cover}
use Rattle.grouping.proofs.seen.look_through.Goals as goal

pub returns : goal.returns
returns g c =
    let t = c.loop-at-test.false in
    let end = c.len-at-end.ensures.value in
    let most = c.loop-at.invariant.3 in
    let same : c.loop-at.at ≡ length c.args.keys.now = omega arith in
    subst (λ n. Cover c.args.keys.now n c.loop-at.kept.items) same c.loop-at.invariant.0

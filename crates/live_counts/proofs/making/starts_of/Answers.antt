use Rattle.std.proofs.Common.{◌≡◌, Bool, List, None, false, length, get_or, ap, arith, ◌∙◌}
use Rattle.std.specs.List.{filter}
use Rattle.relations.specs.Positions.{numbers}
use Rattle.live_counts.specs.Runs.{flags, ties}
use Rattle.live_counts.proofs.Flagging.{length-flags}
use Rattle.live_counts.proofs.making.starts_of.Goals as goal

pub returns : goal.returns
returns g c =
    let same = ties (g.T.TableRead.schema c.args.rows.now) c.args.op.now (g.T.TableRead.rows c.args.rows.now) in
    let fs : List Bool = flags same c.args.kept.now in
    let t = c.loop-at-test.false in
    let end = c.loop-at.auto.at-end in
    let long = length-flags same None c.args.kept.now in
    let all : c.loop-at.at ≡ length fs = omega arith in
    c.loop-at.invariant ∙ ap (λ n. filter (λ i. get_or fs i false) (numbers n)) all

use Rattle.std.proofs.Common.{length, ap, arith, ◌∙◌}
use Rattle.live.specs.Putting.{spelled}
use Rattle.live.proofs.Ops.{positions_few}
use Rattle.live.proofs.picked.positions_of.Goals as goal

pub of-requires : goal.of-requires
of-requires g c =
    let schema = g.T.TableRead.schema c.args.rows.now in
    let few = positions_few schema (spelled schema c.args.op.now) (g.T.TableRead.rows c.args.rows.now) in
    let long = ap length (c.deref.ensures.value ∙ c.in_ok-flat.ensures) in
    let size = c.size-size.ensures.whole.few in
    omega arith

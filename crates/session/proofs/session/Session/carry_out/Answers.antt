use Rattle.std.proofs.Common.{map, subst}
use Rattle.session.specs.Answered.{Answered}
use Rattle.session.specs.World.{World}
use Rattle.session.proofs.session.Session.carry_out.Goals as goal

pub returns : goal.returns
returns g c =
    subst (λ (w : World). Answered (map g.V.Viewer.meaning c.args.viewers.now) c.args.command.now w c.dispatch.result c.dispatch.new.self) c.keep_counts.ensures c.dispatch.ensures

use Rattle.std.proofs.Common.{refl, arith}
use Rattle.live.proofs.Rising.{raised_on}
use Rattle.live.proofs.watch.Watch.count.Goals as goal

pub returns-clause-taken : goal.returns-clause-taken
returns-clause-taken c =
    rw (← c.self.view_is) (record {
      followed = record {
        number = refl;
        source = refl;
        op = refl;
        followed = raised_on c.args.events c.self.inside.followed c.saturating_add-self-inside.result c.requires c.saturating_add-self-inside.ensures;
      };
      room = omega arith;
    })

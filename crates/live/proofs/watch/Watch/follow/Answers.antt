use Rattle.std.proofs.Common.{refl, arith}
use Rattle.live.proofs.watch.Watch.follow.Goals as goal

pub returns-clause-raised : goal.returns-clause-raised
returns-clause-raised g c =
    rw (← c.self.view_is) (record {
      number = refl;
      source = refl;
      op = refl;
      room =
          let a = c.after-self-inside.ensures.spare in
          omega arith;
      followed = c.saturating_add-self-inside.ensures;
      answer = c.of_turn-self-inside.ensures;
    })

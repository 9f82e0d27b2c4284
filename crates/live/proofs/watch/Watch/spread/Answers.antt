use Rattle.std.proofs.Common.{◌+◌, ◌-◌, ◌^◌, min, arith, ap, ◌∙◌}
use Rattle.live.specs.declared.watch.Watch.TheInside.{Inside}
use Rattle.live.proofs.Rising.{raised_on}
use Rattle.live.proofs.watch.Watch.spread.Goals.{in-None, in-Some}
use Rattle.live.proofs.watch.Watch.spread.Goals as goal

pub returns-clause-taken : goal.returns-clause-taken
returns-clause-taken g c =
    rw (← c.self.view_is) (record {
      followed = record {
        number = elim c.match-at.branch [ in-None w ↦ ap (λ (s : Inside). s.number) w.self-inside-is | in-Some w ↦ ap (λ (s : Inside). s.number) w.self-inside-is ];
        source = elim c.match-at.branch [ in-None w ↦ ap (λ (s : Inside). s.source) w.self-inside-is | in-Some w ↦ ap (λ (s : Inside). s.source) w.self-inside-is ];
        op = elim c.match-at.branch [ in-None w ↦ ap (λ (s : Inside). s.op) w.self-inside-is | in-Some w ↦ ap (λ (s : Inside). s.op) w.self-inside-is ];
        followed = raised_on c.args.count c.self.inside.followed c.saturating_add-self-inside.result c.requires.some
            (c.saturating_add-self-inside.ensures ∙ ap (λ f. min (f + c.args.count) (2 ^ 64 - 1)) (elim c.match-at.branch [ in-None w ↦ ap (λ (s : Inside). s.followed) w.self-inside-is | in-Some w ↦ ap (λ (s : Inside). s.followed) w.self-inside-is ]));
      };
      room = elim c.match-at.branch [
        | in-None w ↦ let a = ap (λ (s : Inside). s.keeper.kept.spare) w.self-inside-is in omega arith
        | in-Some w ↦ let a = ap (λ (s : Inside). s.keeper.kept.spare) w.self-inside-is in let e = w.spread-to.ensures.spare in omega arith
      ];
    })

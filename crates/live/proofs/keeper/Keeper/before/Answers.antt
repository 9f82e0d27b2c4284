use Rattle.std.proofs.Common.{ap, sym, ◌∙◌}
use Rattle.live.proofs.keeper.Keeper.before.Goals as goal
use Rattle.live.specs.Watching.{placed}
use Rattle.live.proofs.keeper.Keeper.before.Goals.{in-None, in-Some}

pub returns-clause-noted : goal.returns-clause-noted
returns-clause-noted g c = elim c.match-goes_from.branch [
  | in-None w ↦ w.self-is ∙ ap (placed c.args.self.now.kept.list) (sym w.in-None.is)
  | in-Some w ↦
      w.self-is ∙ w.find-self.ensures.value
      ∙ ap (placed c.args.self.now.kept.list) (sym w.in-Some.is)
]

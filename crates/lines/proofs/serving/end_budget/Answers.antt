use Rattle.lines.proofs.OneTake.{Serves-too_much}
use Rattle.lines.proofs.serving.end_budget.Goals as goal

pub returns-in-Ok-clause-serves : goal.returns-in-Ok-clause-serves
returns-in-Ok-clause-serves g c = λ tells start begin budget so.
    Serves-too_much (g.S.Session.machine c.args.context.now) budget start begin _ _ _ _ _ _ _ so (c.in-Ok.ensures.takes tells) c.in-Ok.ensures.counts c.take.auto.into c.in-Ok.ensures.within c.in-Ok.field-0-test.1

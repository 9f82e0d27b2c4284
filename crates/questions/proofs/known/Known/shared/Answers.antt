use Rattle.std.proofs.Common.{inr}
use Rattle.std.proofs.lemmas.Result.{err_from_is_err_and}
use Rattle.questions.specs.Kept.{stored, table_of}
use Rattle.questions.proofs.Found.{seen_refused, seen_nothing}
use Rattle.questions.proofs.known.Known.shared.Goals as goal

pub returns-in_err-inner_table-in-Some-clause-err : goal.returns-in_err-inner_table-in-Some-clause-err
returns-in_err-inner_table-in-Some-clause-err c =
    let names = stored c.args.self.now.views c.args.self.now.snapshots in
    let p = err_from_is_err_and c.from_residual.result c.from_residual.ensures.1 in
    rw (p.1, p.2)
    (inr (seen_refused names c.args.path.now c.name.result.now c.name.ensures c.steps.result.now (table_of c.in-Some.table.now) _ c.steps.ensures c.in-Some.ensures c.in_err-inner_table-in-Some.ensures))

pub returns-in-None-clause-err : goal.returns-in-None-clause-err
returns-in-None-clause-err c =
    inr (seen_nothing (stored c.args.self.now.views c.args.self.now.snapshots) c.args.path.now c.name.result.now c.name.ensures c.in-None.ensures)

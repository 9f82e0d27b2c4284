use Rattle.std.proofs.Common.{◌≤◌, length, sym, subst}
use Rattle.mk_value.specs.Data.{IsRowOf}
use Rattle.view_store.proofs.Fitting.{completed_fits}
use Rattle.session.proofs.Fitted.{values_few}
use Rattle.session.proofs.values.make_whole_row.Goals as goal

pub returns-clause-whole : goal.returns-clause-whole
returns-clause-whole c =
    let schema = c.args.schema.now in
    let row = c.in_ok-row.row in
    subst (λ r. IsRowOf r schema) (sym c.in_ok-complete.ensures.ok)
    (completed_fits row schema (subst (λ r. length r ≤ length schema) (sym c.in_ok-row.ensures.value) (values_few schema c.args.literals.now)) c.in_ok-row.ensures.whole)

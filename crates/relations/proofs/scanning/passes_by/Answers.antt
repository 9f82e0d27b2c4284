use Rattle.std.proofs.Common.{get_or, ap, sym, ◌∙◌, ◌<◌, length, arith}
use Rattle.relations.proofs.Asking.{within, outside}
use Rattle.relations.proofs.scanning.passes_by.Goals as goal

pub returns-then-is_within_by-clause-value : goal.returns-then-is_within_by-clause-value
returns-then-is_within_by-clause-value g c =
    let some : 0 < length c.args.criteria.now = grind arith in
    c.passes.ensures
    ∙ within (g.T.TableRead.schema c.args.table.now) c.args.criteria.now c.args.columns.now (g.T.TableRead.rows c.args.table.now) c.args.row 0 (get_or c.as_slice.result.now 0 0) c.index-criteria-0.result c.requires.resolved some c.index-criteria-0.is
    (ap (λ cs. get_or cs 0 0) c.as_slice.ensures) (sym c.is_within_by.ensures.value ∙ c.if-is_within_by.true)

pub returns-else-is_within_by-clause-value : goal.returns-else-is_within_by-clause-value
returns-else-is_within_by-clause-value g c =
    let some : 0 < length c.args.criteria.now = grind arith in
    c.if-is_within_by.false
    ∙ sym (outside (g.T.TableRead.schema c.args.table.now) c.args.criteria.now c.args.columns.now (g.T.TableRead.rows c.args.table.now) c.args.row 0 (get_or c.as_slice.result.now 0 0) c.index-criteria-0.result c.requires.resolved some c.index-criteria-0.is
    (ap (λ cs. get_or cs 0 0) c.as_slice.ensures) (sym c.is_within_by.ensures.value ∙ c.if-is_within_by.false))

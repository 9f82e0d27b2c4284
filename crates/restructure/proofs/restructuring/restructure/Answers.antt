use Rattle.std.proofs.Common.{sym, subst, ap, ◌∙◌}
use Rattle.tables.specs.Rests.{RestsOn}
use Rattle.tables.specs.Tables.{StoredTable}
use Rattle.tables.proofs.Cells.{IfOk-then}
use Rattle.restructure.specs.Restructuring.{restructured}
use Rattle.restructure.proofs.Kept.{restructured-same}
use Rattle.restructure.proofs.Placing.{restructured_rests}
use Rattle.restructure.proofs.restructuring.restructure.Goals as goal

pub returns-clause-rests : goal.returns-clause-rests
returns-clause-rests c =
    let t = c.args.old.now in
    let new = c.args.schema.now in
    let same = c.in_ok-schema.ensures ∙ c.in_ok-copy.ensures in
    IfOk-then c.restructure_table.result c.restructure_table.ensures
    (λ made e. subst (λ (u : StoredTable). RestsOn u t) (sym (e ∙ ap (λ s. restructured t s) same)) (restructured_rests t new c.len-rows.ensures.whole c.len-properties.ensures.whole))

pub returns-clause-same : goal.returns-clause-same
returns-clause-same c = λ kept.
    let t = c.args.old.now in
    let new = c.args.schema.now in
    let same = c.in_ok-schema.ensures ∙ c.in_ok-copy.ensures in
    IfOk-then c.restructure_table.result c.restructure_table.ensures
    (λ made e. e ∙ ap (λ s. restructured t s) same ∙ restructured-same t new c.len-rows.ensures.whole c.len-rows.ensures.homes kept)

use Rattle.std.proofs.Common.{◌∙◌, ap, set}
use Rattle.tables.specs.Cells.{with_view}
use Rattle.tables.proofs.Setting.{OnOk-then, col_read, cols_set}
use Rattle.tables.proofs.cols.Cols.set_view.Goals as goal

pub returns-clause-ok : goal.returns-clause-ok
returns-clause-ok c =
    let read = col_read c.self.inside.items.items c.args.self.now c.args.col c.index_mut.result.now c.self.view_is c.requires.col c.index_mut.ensures.value in
    OnOk-then c.set_view.result c.set_view.ensures.ok
    (λ done. cols_set c.self.inside.items.items c.args.self.now c.args.col c.set_view.new.col c.self.view_is
    ∙ ap (λ x. set c.args.self.now c.args.col x) (done ∙ ap (λ x. with_view c.args.row c.args.table x) read))

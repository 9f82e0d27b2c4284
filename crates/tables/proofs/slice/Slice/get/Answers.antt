use Rattle.std.proofs.Common.{◌∙◌, sym}
use Rattle.tables.proofs.Cells.{IfOk-then}
use Rattle.tables.proofs.Slices.{cell_sliced}
use Rattle.tables.proofs.slice.Slice.get.Goals as goal

pub returns : goal.returns
returns c =
    let s = c.args.self.now in
    IfOk-then c.get.result c.get.ensures (λ u e. e ∙ sym (cell_sliced s.from s.count c.args.row c.args.col s.table.now.rows c.requires.row_in))

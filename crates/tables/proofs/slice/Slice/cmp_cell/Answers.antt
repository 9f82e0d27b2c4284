use Rattle.std.proofs.Common.{◌∙◌, ap, sym}
use Rattle.mk_value.specs.Data.{Datum}
use Rattle.mk_value.specs.Order.{value_cmp}
use Rattle.mk_value.specs.Values.{datum_of}
use Rattle.tables.proofs.Slices.{cell_sliced}
use Rattle.tables.proofs.slice.Slice.cmp_cell.Goals as goal

pub returns : goal.returns
returns c =
    let s = c.args.self.now in
    c.cmp_cell.ensures ∙ ap (λ (d : Datum). value_cmp d (datum_of c.args.with.now)) (sym (cell_sliced s.from s.count c.args.row c.args.col s.table.now.rows c.requires.row_in))

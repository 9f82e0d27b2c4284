use Rattle.std.proofs.Common.{◌+◌, ◌∙◌, ap, sym}
use Rattle.mk_value.specs.Data.{Datum, cell}
use Rattle.mk_value.specs.Order.{value_cmp}
use Rattle.tables.proofs.Slices.{cell_sliced}
use Rattle.tables.specs.Slices.{sliced}
use Rattle.tables.proofs.slice.Slice.cmp_rows.Goals as goal

pub returns : goal.returns
returns c =
    let s = c.args.self.now in
    let rows = s.table.now.rows in
    c.cmp_rows.ensures
    ∙ ap (λ (d : Datum). value_cmp d (cell rows (s.from + c.args.b) c.args.col)) (sym (cell_sliced s.from s.count c.args.a c.args.col rows c.requires.first_in))
    ∙ ap (value_cmp (cell (sliced s.from s.count rows) c.args.a c.args.col)) (sym (cell_sliced s.from s.count c.args.b c.args.col rows c.requires.second_in))

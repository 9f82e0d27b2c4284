use Rattle.std.proofs.Common.{sym, subst}
use Rattle.mk_value.specs.Lending.{Lends}
use Rattle.tables.proofs.Slices.{cell_sliced}
use Rattle.tables.proofs.slice.Slice.lend.Goals as goal

pub returns : goal.returns
returns c =
    let s = c.args.self.now in
    subst (Lends c.lend.result) (sym (cell_sliced s.from s.count c.args.row c.args.col s.table.now.rows c.requires.row_in)) c.lend.ensures

use Rattle.std.proofs.Common.{subst}
use Rattle.mk_value.specs.Kinds.{domain_of}
use Rattle.mk_value.specs.Values.{datum_of}
use Rattle.tables.specs.Cells.{IsSet}
use Rattle.tables.specs.Homes.{empty_homes_in}
use Rattle.tables.specs.Stored.{stored_of}
use Rattle.tables.proofs.Setting.{OnOk-then, col_read, cols_set}
use Rattle.tables.proofs.cols.Cols.set_value.Goals as goal

pub returns-clause-ok : goal.returns-clause-ok
returns-clause-ok c =
    let e = domain_of c.args.kind.now in
    let d = datum_of c.args.value.now in
    let read = col_read c.self.inside.items.items c.args.self.now c.args.col c.index_mut.result.now c.self.view_is c.requires.col c.index_mut.ensures.value in
    OnOk-then c.set_value.result c.set_value.ensures.ok
    (λ done. record {
      column = stored_of c.set_value.new.col;
      set_is = subst (λ x. IsSet x e c.args.row d (empty_homes_in e d) (stored_of c.set_value.new.col)) read done;
      others = cols_set c.self.inside.items.items c.args.self.now c.args.col c.set_value.new.col c.self.view_is;
    })

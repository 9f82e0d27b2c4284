use Rattle.std.proofs.Common.{◌≡◌, ◌≤◌, All, length, map, ap, sym, subst, ◌∙◌, arith}
use Rattle.std.proofs.lemmas.Bool.{OnTrue_at, OnTrue_from}
use Rattle.std.proofs.lemmas.List.Elements.{All-map, All-same}
use Rattle.tables.specs.Columns.{StoredColumn, home_of}
use Rattle.tables.specs.Pools.{IsPoolable, IsSimpleHome}
use Rattle.tables.specs.Stored.{stored_of}
use Rattle.tables.specs.Tables.{StoredTable}
use Rattle.tables.proofs.Gathering.{length-rows_of_columns}
use Rattle.tables.proofs.Poolable.{poolable}
use Rattle.tables.proofs.table.Table.is_poolable.Goals as goal

pub returns : goal.returns
returns c =
    let own = c.self.inside in
    let long = ap (λ (t : StoredTable). length t.rows) c.self.view_is in
    let P = λ (x : StoredColumn). IsSimpleHome (home_of x) in
    OnTrue_from c.have_simple_homes.result _
    (λ yes. subst (λ (t : StoredTable). IsPoolable t.schema t) c.self.view_is
    (poolable own.rows own.schema own.cols c.self.invariant (omega (arith, long, length-rows_of_columns own.rows own.schema own.cols, c.len.ensures.value))
    (All-same P own.cols _ (sym c.as_slice.ensures) (All-map P stored_of c.as_slice.result.now (OnTrue_at yes c.have_simple_homes.ensures)))))

use Rattle.std.proofs.Common.{ℕ, List, [], length, map, ap, subst, sym, ◌∙◌, arith}
use Rattle.std.proofs.lemmas.List.{length-map}
use Rattle.mk_value.specs.Data.{Datum}
use Rattle.relations.specs.Columns.{values_at}
use Rattle.relations.specs.Positions.{order_of}
use Rattle.relations.specs.WholeOrder.{whole_row_cmp}
use Rattle.relations.proofs.Orders.{order_few}
use Rattle.grouping.specs.Index.{IsOrderOf}
use Rattle.grouping.proofs.Entries.{sorted_order}
use Rattle.grouping.proofs.keys.TableKeys.order.Goals as goal

pub returns-clause-order : goal.returns-clause-order
returns-clause-order g c =
    let keyed = map (values_at c.self.inside.columns) (g.T.TableRead.rows c.self.inside.table.now) in
    subst (λ (order : List ℕ). IsOrderOf c.args.self.now order) (sym (c.into_vec.ensures ∙ c.in_ok-positions_by_columns.ensures))
    (subst (λ (rows : List (List Datum)). IsOrderOf rows (order_of whole_row_cmp [] keyed)) c.self.view_is (sorted_order keyed))

pub returns-clause-few : goal.returns-clause-few
returns-clause-few g c =
    let rows = g.T.TableRead.rows c.self.inside.table.now in
    let keyed = map (values_at c.self.inside.columns) rows in
    let long = ap (λ (order : List ℕ). length order) (c.into_vec.ensures ∙ c.in_ok-positions_by_columns.ensures) in
    let own = order_few whole_row_cmp [] keyed in
    let many = length-map rows (values_at c.self.inside.columns) in
    let few = c.size-size.ensures.whole.few in
    omega arith

use Rattle.std.proofs.Common.{◌≡◌, ℕ, List, length, map, All, ap, sym, subst, ◌∙◌}
use Rattle.std.specs.Prelude.{IfOk}
use Rattle.mk_value.specs.Data.{Datum}
use Rattle.relations.specs.Columns.{values_at}
use Rattle.relations.specs.Keys.{IsPlainColumn}
use Rattle.relations.specs.Positions.{numbers}
use Rattle.grouping.proofs.WholeRows.{all_rows, plain_columns}
use Rattle.grouping.proofs.whole_rows.whole_index.Goals as goal

pub new-requires : goal.new-requires
new-requires g c =
    let schema = g.T.TableRead.schema c.args.table.now in
    subst (All (IsPlainColumn schema)) (sym (c.in_ok-columns.ensures ∙ ap numbers (c.len.ensures.value ∙ ap (λ s. length s) c.schema.ensures.value))) (plain_columns schema c.requires)

pub returns : goal.returns
returns g c =
    let schema = g.T.TableRead.schema c.args.table.now in
    let rows = g.T.TableRead.rows c.args.table.now in
    subst (λ (seen : List (List Datum)). IfOk c.new.result (λ index. index ≡ seen))
    (ap (λ (columns : List ℕ). map (values_at columns) rows) (c.in_ok-columns.ensures ∙ ap numbers (c.len.ensures.value ∙ ap (λ s. length s) c.schema.ensures.value)) ∙ all_rows schema rows c.size-size.ensures.whole) c.new.ensures

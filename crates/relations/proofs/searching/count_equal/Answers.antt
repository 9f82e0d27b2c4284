use Rattle.std.proofs.Common.{List, None, ◌≡◌, Bool, IfOk, ap, subst, sym, ◌∙◌}
use Rattle.mk_value.specs.Data.{Datum}
use Rattle.mk_value.specs.Heading.{Attribute}
use Rattle.relations.specs.Criteria.{Interval, is_in_range}
use Rattle.std.specs.List.{count_by}
use Rattle.relations.specs.Refusals.{range_due}
use Rattle.relations.proofs.searching.count_equal.Goals as goal

pub columns_of-requires : goal.columns_of-requires
columns_of-requires g c =
    subst (λ (s : List Attribute). range_due c.as_slice-items.result.now s ≡ None) (sym c.schema.ensures.value)
    (subst (λ (bs : List Interval). range_due bs (g.T.TableRead.schema c.args.table.now) ≡ None) (sym c.as_slice-items.ensures) (c.in_ok-asked.ensures.due (g.T.TableRead.schema c.args.table.now) c.requires))

pub returns : goal.returns
returns g c =
    let schema = g.T.TableRead.schema c.args.table.now in
    let same : is_in_range schema c.as_slice-items.result.now ≡ is_in_range schema c.args.criteria.now =
    ap (is_in_range schema) c.as_slice-items.ensures ∙ (λ i row. c.in_ok-asked.ensures.alike schema row i) in
    subst (λ (test : List Datum → Bool). IfOk c.count_passing.result (λ count. count ≡ count_by test (g.T.TableRead.rows c.args.table.now))) same c.count_passing.ensures

use Rattle.std.proofs.Common.{List, [], length, ap, sym, ◌∙◌, arith, subst, All, ◌<◌}
use Rattle.mk_value.specs.Data.{Datum}
use Rattle.relations.specs.Criteria.{is_in_range}
use Rattle.relations.specs.Refusals.{range_due}
use Rattle.relations.specs.Rows.{rows_at}
use Rattle.relations.proofs.Faults.{done_due}
use Rattle.relations.proofs.Filtering.{passing_few, passing_in, rows_passing}
use Rattle.derived.proofs.passing.range.Goals as goal

pub positions_in_range-requires : goal.positions_in_range-requires
positions_in_range-requires g c = ap (range_due c.args.criteria.now) (sym c.schema.ensures.value) ∙ sym c.in_ok-check_criteria.ensures

pub gather-requires : goal.gather-requires
gather-requires g c =
    let test = is_in_range c.args.base.schema c.args.criteria.now in
    let same = c.in_ok-positions.ensures in
    let long = ap length same in
    let few = passing_few test [] c.args.base.rows in
    let whole = c.size-size.ensures.whole.few in
    record {
      few = omega arith;
      in_range = subst (λ ps. All (λ i. i < length c.args.base.rows) ps) (sym same) (passing_in test [] c.args.base.rows);
    }

pub returns : goal.returns
returns g c =
    let none = ap (range_due c.args.criteria.now) (sym c.schema.ensures.value) ∙ sym c.in_ok-check_criteria.ensures in
    record {
      due = done_due (range_due c.args.criteria.now c.args.base.schema) c.in_ok-gather.field-0 none;
      ok = c.in_ok-gather.ensures ∙ ap (λ (rows : List (List Datum)). record { schema = c.args.base.schema; rows = rows })
          (ap (rows_at c.args.base.rows) c.in_ok-positions.ensures ∙ rows_passing (is_in_range c.args.base.schema c.args.criteria.now) [] c.args.base.rows);
    }

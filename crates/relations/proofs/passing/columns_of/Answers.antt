use Rattle.std.proofs.Common.{map, ap, ◌∙◌, arith}
use Rattle.std.proofs.lemmas.List.{take_all}
use Rattle.relations.specs.Criteria.{Interval}
use Rattle.relations.specs.Columns.{column_of}
use Rattle.relations.specs.Refusals.{absent}
use Rattle.relations.specs.Rows.{has}
use Rattle.relations.proofs.Asking.{first_none, usable}
use Rattle.relations.proofs.Names.{item_present}
use Rattle.relations.proofs.passing.columns_of.Goals as goal

pub column-requires : goal.column-requires
column-requires c =
    let named = first_none (absent c.args.schema.now (map (λ (b : Interval). b.prop) c.args.criteria.now)) _ c.requires in
    ap (λ (b : Interval). has c.args.schema.now b.prop) c.criterion.view_is
    ∙ item_present (λ (b : Interval). b.prop) c.args.schema.now c.args.criteria.now c.loop-criterion.criterion-index c.criterion-item.result named c.loop-criterion-test.true c.criterion-item.is

pub returns : goal.returns
returns c =
    let end = c.loop-criterion-test.false in
    record {
      columns = c.loop-criterion.invariant ∙ ap (map (λ (b : Interval). column_of c.args.schema.now b.prop)) (take_all c.loop-criterion.criterion-index c.args.criteria.now (omega arith));
      usable = usable c.args.schema.now c.args.criteria.now c.requires;
    }

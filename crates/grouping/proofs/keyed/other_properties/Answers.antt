use Rattle.std.proofs.Common.{◌≡◌, List, subst}
use Rattle.std.specs.Prelude.{IfOk}
use Rattle.mk_value.specs.Heading.{Attribute}
use Rattle.relations.specs.Rows.{others}
use Rattle.relations.proofs.Headings.{others_here}
use Rattle.grouping.proofs.KeyColumns.{in_range, properties_are}
use Rattle.grouping.proofs.keyed.other_properties.Goals as goal

pub properties_in-requires : goal.properties_in-requires
properties_in-requires c =
    in_range c.args.schema.now (others c.args.schema.now c.args.keys.now) (others_here c.args.schema.now c.args.keys.now) c.in_ok-columns.columns c.in_ok-columns.ensures

pub returns : goal.returns
returns c =
    subst (λ (made : List Attribute). IfOk c.properties_in.result (λ props. props ≡ made))
    (properties_are c.args.schema.now (others c.args.schema.now c.args.keys.now) (others_here c.args.schema.now c.args.keys.now) c.in_ok-columns.columns c.in_ok-columns.ensures) c.properties_in.ensures

use Rattle.derived.specs.Layers.{table_of}
use Rattle.derived.proofs.Stacks.{other_due, many_due, none_due}
use Rattle.derived.proofs.stacking.check_concat.Goals as goal

pub returns-then-not-is_same : goal.returns-then-not-is_same
returns-then-not-is_same g c = other_due (table_of c.args.a.now) (table_of c.args.b.now) c.schema.result.now c.schema-2.result.now c.is_same.result 0 0 c.schema.ensures.value c.schema-2.ensures.value c.is_same.ensures c.if-not-is_same.true

pub returns-then-size-gt-MAX_ROWS : goal.returns-then-size-gt-MAX_ROWS
returns-then-size-gt-MAX_ROWS g c = many_due (table_of c.args.a.now) (table_of c.args.b.now) c.schema.result.now c.schema-2.result.now c.is_same.result c.size.result c.size-2.result c.schema.ensures.value c.schema-2.ensures.value c.is_same.ensures c.if-not-is_same.false c.size.ensures.value c.size-2.ensures.value c.if-size-gt-MAX_ROWS.true

pub returns : goal.returns
returns g c = none_due (table_of c.args.a.now) (table_of c.args.b.now) c.schema.result.now c.schema-2.result.now c.is_same.result c.size.result c.size-2.result c.schema.ensures.value c.schema-2.ensures.value c.is_same.ensures c.if-not-is_same.false c.size.ensures.value c.size-2.ensures.value c.if-size-gt-MAX_ROWS.false

use Rattle.std.proofs.Common.{sym}
use Rattle.derived.specs.Layers.{table_of}
use Rattle.relations.specs.Refusals.{other_schema}
use Rattle.relations.proofs.Faults.{done_due}
use Rattle.joins.proofs.sets.keep.Goals as goal

pub returns : goal.returns
returns g c = record {
  due = done_due (other_schema (table_of c.args.a) (table_of c.args.b.now)) c.in_ok-kept.field-0 (sym c.in_ok-check_same.ensures);
  ok = c.in_ok-kept.ensures;
}

use Rattle.std.proofs.Common.{ap, ◌∙◌}
use Rattle.mk_value.specs.Tables.{Table}
use Rattle.derived.specs.Layers.{table_of}
use Rattle.derived.specs.Operators.{minus}
use Rattle.joins.proofs.sets.unique_besides.Goals as goal

pub returns : goal.returns
returns g c = record {
  due = tt;
  ok = c.in_ok-kept.ensures ∙ ap (λ (x : Table). minus x (table_of c.args.other.now)) c.in_ok-rows.ensures.ok;
}

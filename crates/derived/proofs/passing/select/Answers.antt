use Rattle.std.proofs.Common.{◌≡◌, IfOk, subst}
use Rattle.mk_value.specs.Tables.{Table}
use Rattle.derived.specs.Layers.{table_of}
use Rattle.derived.proofs.Selecting.{select_is}
use Rattle.derived.proofs.passing.select.Goals as goal

pub returns : goal.returns
returns g c = record {
  due = c.range.ensures.due;
  ok = subst (λ (t : Table). IfOk c.range.result (λ d. table_of d ≡ t)) (select_is c.args.criteria.now (table_of c.args.base) c.requires.equal) c.range.ensures.ok;
}

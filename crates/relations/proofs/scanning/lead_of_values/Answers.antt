use Rattle.std.proofs.Common.{sym, ◌∙◌}
use Rattle.mk_value.specs.Values.{datum_of}
use Rattle.relations.proofs.Scans.{same_values}
use Rattle.relations.proofs.scanning.lead_of_values.Goals as goal

pub returns-then-is_eq : goal.returns-then-is_eq
returns-then-is_eq c = same_values (datum_of c.args.low.now) (datum_of c.args.high.now) c.cmp_whole_value.result c.cmp_whole_value.ensures (sym c.is_eq.ensures ∙ c.if-is_eq.true)

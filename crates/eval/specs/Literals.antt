-- Criteria with literals, lent by an expression.
use Rattle.mk_value.specs.LiteralValues.{literal_of}
use Rattle.relations.specs.Criteria.{Interval}
use Rattle.eval.specs.declared.literals.Asked.{Asked}

-- the property and the literals that are asked for
abbrev pub interval_of : Asked → Interval
interval_of a = record { prop = a.prop.now; low = literal_of a.low.now; high = literal_of a.high.now }

-- Rows by all their values.
use Rattle.std.specs.Prelude.{Bool, not, List}
use Rattle.std.specs.List.{list_any}
use Rattle.mk_value.specs.Heading.{Attribute}
use Rattle.relations.specs.Fitting.{is_view}

-- no property is a view
abbrev pub is_plain : List Attribute → Bool
is_plain schema = not (list_any (λ (a : Attribute). is_view a.domain) schema)

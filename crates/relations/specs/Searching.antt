-- Where a table has the values that are asked for in the order of its keys.
use Rattle.std.specs.Prelude.{ℕ, List, ◌∷◌, count_by}
use Rattle.std.specs.declared.cmp.Ordering.{Ordering}
use Rattle.std.specs.declared.cmp.Ordering.TheVariants.{Equal}
use Rattle.std.specs.Ordering.{is_lt, ordering_then}
use Rattle.mk_value.specs.Heading.{Attribute}
use Rattle.mk_value.specs.Data.{Datum}
use Rattle.mk_value.specs.Order.{value_cmp, turned}
use Rattle.relations.specs.declared.criteria.Key.{Key}
use Rattle.relations.specs.Criteria.{Interval}
use Rattle.relations.specs.Rows.{value_of}

-- how a row stands to the values that are asked for, one for each of the first keys: the first in which it differs decides, turned round
-- where that key goes downwards
abbrev pub asked_cmp : List Attribute → List Key → List Interval → List Datum → Ordering
asked_cmp schema (k ∷ keys) (c ∷ criteria) row =
    ordering_then (turned k.down (value_cmp (value_of schema row c.prop) c.low)) (asked_cmp schema keys criteria row)
asked_cmp schema keys criteria row = Equal

-- the number of rows that come before these values
abbrev pub rows_before : List Attribute → List Key → List Interval → List (List Datum) → ℕ
rows_before schema keys criteria rows = count_by (λ row. is_lt (asked_cmp schema keys criteria row)) rows

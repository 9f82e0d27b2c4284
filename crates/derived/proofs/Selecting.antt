-- Where the bounds of criteria are equal, a value within them is that value.
use Rattle.std.proofs.Common.{◌≡◌, ◌&&◌, List, [], ◌∷◌, All, refl, ap, sym, ◌∙◌}
use Rattle.std.specs.declared.cmp.Ordering.{Ordering}
use Rattle.std.specs.declared.cmp.Ordering.TheVariants.{Less, Equal, Greater}
use Rattle.std.specs.Ordering.{is_ge, is_le, is_eq}
use Rattle.std.proofs.lemmas.List.Elements.{All-head, All-tail, filter_agree}
use Rattle.mk_value.specs.Heading.{Attribute}
use Rattle.mk_value.specs.Data.{Datum}
use Rattle.mk_value.specs.Order.{value_cmp}
use Rattle.mk_value.specs.Tables.{Table}
use Rattle.relations.specs.Criteria.{Interval, is_within, is_in_range, has_values}
use Rattle.derived.specs.Operators.{range, select}
use Rattle.relations.specs.Rows.{value_of}

at_or_between : (o : Ordering) → (is_ge o && is_le o) ≡ is_eq o
at_or_between Less = refl
at_or_between Equal = refl
at_or_between Greater = refl

equal_bounds : (schema : List Attribute) (criteria : List Interval) (row : List Datum) → All (λ (c : Interval). c.low ≡ c.high) criteria → is_in_range schema criteria row ≡ has_values schema criteria row
equal_bounds schema [] row h = refl
equal_bounds schema (c ∷ criteria) row h =
    let v = value_of schema row c.prop in
    let same = All-head (λ (c : Interval). c.low ≡ c.high) c criteria h in
    let first : is_within c v ≡ is_eq (value_cmp v c.low) = ap (λ (d : Datum). is_ge (value_cmp v c.low) && is_le (value_cmp v d)) (sym same) ∙ at_or_between (value_cmp v c.low) in
    ap (λ b. b && is_in_range schema criteria row) first ∙ ap (λ b. is_eq (value_cmp v c.low) && b) (equal_bounds schema criteria row (All-tail (λ (c : Interval). c.low ≡ c.high) c criteria h))

pub select_is : (criteria : List Interval) (t : Table) → All (λ (c : Interval). c.low ≡ c.high) criteria → range criteria t ≡ select criteria t
select_is criteria t h =
    ap (λ (rows : List (List Datum)). record { schema = t.schema; rows = rows }) (filter_agree (is_in_range t.schema criteria) (has_values t.schema criteria) (λ row. equal_bounds t.schema criteria row h) t.rows)

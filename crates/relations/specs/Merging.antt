-- Criteria and keys that ask what others ask, with each property once.
use Rattle.std.specs.Prelude.{◌≡◌, ℕ, ◌<◌, ◌&&◌, true, None, if◌then◌else◌, List, [], ◌∷◌, length, slice_index_or}
use Rattle.std.specs.Ordering.{is_gt, is_lt}
use Rattle.mk_value.specs.Data.{Datum}
use Rattle.mk_value.specs.Heading.{Attribute}
use Rattle.mk_value.specs.Names.{same_bytes}
use Rattle.mk_value.specs.Order.{value_cmp}
use Rattle.relations.specs.declared.criteria.Key.{Key}
use Rattle.relations.specs.Criteria.{Interval, is_in_range, is_within}
use Rattle.relations.specs.Refusals.{range_due, sort_due}
use Rattle.relations.specs.Rows.{value_of}
use Rattle.relations.specs.Sorting.{row_cmp}

-- the greater and the lesser of two values, the first where they tie
abbrev pub greater : Datum → Datum → Datum
greater a b = if is_lt (value_cmp a b) then b else a

abbrev pub lesser : Datum → Datum → Datum
lesser a b = if is_gt (value_cmp a b) then b else a

-- what two criteria of one property ask together
abbrev pub met : Interval → Interval → Interval
met a b = record { prop = a.prop; low = greater a.low b.low; high = lesser a.high b.high }

-- the criterion at this place is of this property
pub record IsNamedAt (criteria : List Interval) (name : List ℕ) (at : ℕ) : Type 0 where
  pub within : at < length criteria
  pub named : (d : Interval) → same_bytes (slice_index_or criteria at d).prop name ≡ true

-- criteria ask of each row what others ask, under any schema, and are due no refusal where the others are due none
pub record AskAs (criteria others : List Interval) : Type 0 where
  pub alike : (schema : List Attribute) (row : List Datum) → is_in_range schema others row ≡ is_in_range schema criteria row
  pub due : (schema : List Attribute) → range_due criteria schema ≡ None → range_due others schema ≡ None

-- criteria ask what others ask, and what one more asks
pub record AsksAlso (criteria : List Interval) (one : Interval) (both : List Interval) : Type 0 where
  pub alike : (schema : List Attribute) (row : List Datum) → is_in_range schema both row ≡ (is_in_range schema criteria row && is_within one (value_of schema row one.prop))
  pub due : (schema : List Attribute) → range_due criteria schema ≡ None → range_due (one ∷ []) schema ≡ None → range_due both schema ≡ None

-- keys order rows as others do, under any schema, and are due no refusal where the others are due none
pub record OrderAs (keys others : List Key) : Type 0 where
  pub alike : (schema : List Attribute) (a b : List Datum) → row_cmp schema others a b ≡ row_cmp schema keys a b
  pub due : (schema : List Attribute) → sort_due keys schema ≡ None → sort_due others schema ≡ None

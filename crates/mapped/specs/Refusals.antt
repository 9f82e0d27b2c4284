-- Refusals of mappings.
use Rattle.std.specs.Prelude.{◌≡◌, ◌⊎◌, ℕ, Bool, ◌-◌, ◌==◌, ◌||◌, ◌&&◌, not, nat_lt, if◌then◌else◌, List, [], length, take, slice_index_or, find, Option, Some, None, Result, Err, IfErr}
use Rattle.std.specs.List.{list_any}
use Rattle.std.specs.Option.{option_or, option_map}
use Rattle.std.specs.Ordering.{is_lt}
use Rattle.mk_value.specs.Heading.{Attribute}
use Rattle.mk_value.specs.Data.{Datum}
use Rattle.relations.specs.Equality.{is_row_among}
use Rattle.relations.specs.Fitting.{is_view}
use Rattle.relations.specs.Positions.{numbers}
use Rattle.mapped.specs.declared.error.MapError.{MapError}
use Rattle.mapped.specs.declared.error.MapError.TheVariants.{NoKeys, KeyIsView, KeysBroken, Memory}
use Rattle.mapped.specs.Keys.{keys_of, key_cmp}

-- a schema cannot have so many keys: there are none, or more than properties; or one of them is a view
abbrev pub count_due : ℕ → List Attribute → Option MapError
count_due count schema =
    if count == 0 || nat_lt (length schema) count then Some NoKeys
    else (if list_any (λ a. is_view a.domain) (take count schema) then Some KeyIsView else None)

-- the key at a place stood before
abbrev pub is_repeated : List (List Datum) → ℕ → Bool
is_repeated keys i = is_row_among (take i keys) (slice_index_or keys i [])

-- the key at a place is not above the one before it
abbrev pub is_unordered : List (List Datum) → ℕ → Bool
is_unordered keys i = nat_lt 0 i && not (is_lt (key_cmp (slice_index_or keys (i - 1) []) (slice_index_or keys i [])))

-- the first of these
abbrev pub first_repeated : List (List Datum) → Option ℕ
first_repeated keys = find (is_repeated keys) (numbers (length keys))

abbrev pub first_unordered : List (List Datum) → Option ℕ
first_unordered keys = find (is_unordered keys) (numbers (length keys))

-- what an index of rows is due, and an ordered view
abbrev pub index_due : ℕ → List Attribute → List (List Datum) → Option MapError
index_due count schema rows = option_or (count_due count schema) (option_map KeysBroken (first_repeated (keys_of count rows)))

abbrev pub ordered_due : ℕ → List Attribute → List (List Datum) → Option MapError
ordered_due count schema rows = option_or (count_due count schema) (option_map KeysBroken (first_unordered (keys_of count rows)))

-- a call answers the refusal that is due; but memory may be wanting before broken keys are found. Where none is due it is done, or memory
-- was wanting
abbrev pub AnswersDue : {T : Type 0} → Option MapError → Result T MapError → Type 0
AnswersDue (Some (KeysBroken row)) result = (result ≡ Err (KeysBroken row)) ⊎ (result ≡ Err Memory)
AnswersDue (Some e) result = result ≡ Err e
AnswersDue None result = IfErr result (λ e. e ≡ Memory)

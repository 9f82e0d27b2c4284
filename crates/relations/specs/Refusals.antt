-- Refusals: what an operator is due to answer, as far as it is seen by the schema and by what the operator is asked by. Where several
-- properties give one of them, the first that is named decides.
use Rattle.std.specs.Prelude.{ℕ, Bool, not, ◌&&◌, nat_lt, if◌then◌else◌, List, [], ◌∷◌, length, map, slice_index_or, find, Option, Some, None}
use Rattle.std.specs.Option.{option_or, option_map}
use Rattle.mk_value.specs.Limits.{max_properties, max_depth, max_rows}
use Rattle.mk_value.specs.Heading.{Attribute, depth_of}
use Rattle.mk_value.specs.Tables.{Table}
use Rattle.relations.specs.declared.error.DerivedError.{DerivedError}
use Rattle.relations.specs.declared.error.DerivedError.TheVariants.{NoProp, WrongKind, KeyIsView, OtherSchema, TooManyRows, TooWide, TooDeep}
use Rattle.relations.specs.declared.criteria.Key.{Key}
use Rattle.relations.specs.Criteria.{Interval, valued}
use Rattle.relations.specs.Equality.{same_schema}
use Rattle.relations.specs.Fitting.{is_view, fits}
use Rattle.relations.specs.Rows.{has, domain_of}

-- a refusal where the test holds
abbrev pub where_so : Bool → DerivedError → Option DerivedError
where_so test e = if test then Some e else None

-- the first name that the schema has not, and the first whose property is a view
abbrev pub absent : List Attribute → List (List ℕ) → Option DerivedError
absent schema names = option_map NoProp (find (λ name. not (has schema name)) names)

abbrev pub a_view : List Attribute → List (List ℕ) → Option DerivedError
a_view schema names = option_map KeyIsView (find (λ name. is_view (domain_of schema name)) names)

-- the first criterion a bound of which does not fit its property
abbrev pub unfit : List Attribute → List Interval → Option DerivedError
unfit schema criteria =
    option_map (λ b. WrongKind b.prop) (find (λ b. not (fits (domain_of schema b.prop) b.low && fits (domain_of schema b.prop) b.high)) criteria)

abbrev pub too_many_rows : Table → Option DerivedError
too_many_rows t = where_so (nat_lt max_rows (length t.rows)) TooManyRows

abbrev pub too_wide : Table → Option DerivedError
too_wide t = where_so (nat_lt max_properties (length t.schema)) TooWide

abbrev pub too_deep : Table → Option DerivedError
too_deep t = where_so (nat_lt max_depth (depth_of t.schema)) TooDeep

abbrev pub other_schema : Table → Table → Option DerivedError
other_schema a b = where_so (not (same_schema a.schema b.schema)) OtherSchema

-- the first that is due of these
abbrev pub first_of : List (Option DerivedError) → Option DerivedError
first_of [] = None
first_of (o ∷ rest) = option_or o (first_of rest)

-- select and range
abbrev pub range_due : List Interval → List Attribute → Option DerivedError
range_due criteria schema =
    let names = map (λ b. b.prop) criteria in
    first_of (absent schema names ∷ a_view schema names ∷ unfit schema criteria ∷ [])

abbrev pub sort_due : List Key → List Attribute → Option DerivedError
sort_due keys schema =
    let names = map (λ k. k.prop) keys in
    first_of (absent schema names ∷ a_view schema names ∷ [])

-- no property would be left: the first that is named is refused
abbrev pub none_left : List (List ℕ) → List (List ℕ) → Option DerivedError
none_left [] names = Some (NoProp (slice_index_or names 0 []))
none_left (_ ∷ _) names = None

-- the first key that a test refuses
abbrev pub first_key : (List ℕ → DerivedError) → (List ℕ → Bool) → List (List ℕ) → Option DerivedError
first_key refusal test keys = option_map refusal (find test keys)

-- criteria whose bounds are literals: what the same are due with the values that the literals become. So an absent property and a view
-- are found in all criteria before one literal is asked whether it fits
abbrev pub literals_due : List Interval → List Attribute → Option DerivedError
literals_due criteria schema = range_due (map (valued schema) criteria) schema

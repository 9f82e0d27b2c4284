-- The refusal of a mapping.
use Rattle.std.specs.Prelude.{◌≡◌, ◌⊎◌, ◌==◌, ◌||◌, ℕ, Bool, true, false, nat_le, nat_lt, List, length, take, Option, Some, None, Result, Err, IfErr}
use Rattle.std.specs.List.{list_any}
use Rattle.std.specs.Option.{option_map, option_or}
use Rattle.std.specs.Result.{result_err}
use Rattle.mapped.specs.Keys.{keys_of}
use Rattle.mapped.specs.Refusals.{first_repeated, first_unordered}
use Rattle.mapped.specs.declared.error.MapError.{MapError}
use Rattle.mapped.specs.declared.error.MapError.TheVariants as map_error
use Rattle.mk_value.specs.Data.{Datum}
use Rattle.mk_value.specs.Heading.{Attribute}
use Rattle.relations.specs.Fitting.{is_view}
use Rattle.keyed_views.specs.declared.by.By.{By}
use Rattle.keyed_views.specs.declared.by.By.TheVariants.{Hash, Order}
use Rattle.keyed_views.specs.declared.error.MappingError.{MappingError}
use Rattle.keyed_views.specs.declared.error.MappingError.TheVariants.{InUse, Keys, Kind, Limit, Memory, Range}
use Rattle.keyed_views.specs.Mapped.{MappedView, is_mapped, max_mappings}

-- this refusal, where it is so
abbrev pub refused_if : Bool → MappingError → Option MappingError
refused_if true e = Some e
refused_if false e = None

-- by the schema alone: a view is among the first properties, so many, or there are no keys or more than properties
abbrev pub schema_due : ℕ → List Attribute → Option MappingError
schema_due keys schema =
    option_or (refused_if (list_any (λ a. is_view a.domain) (take keys schema)) Kind)
    (refused_if ((keys == 0) || nat_lt (length schema) keys) (Range (length schema)))

-- by the rows: the first one whose key stood before, or is not above that of the row before it
abbrev pub rows_due : By → ℕ → List (List Datum) → Option MappingError
rows_due Hash keys rows = option_map Keys (first_repeated (keys_of keys rows))
rows_due Order keys rows = option_map Keys (first_unordered (keys_of keys rows))

-- how the refusal of keys is told
abbrev pub told_of_map : MapError → MappingError
told_of_map map_error.NoKeys = Range 0
told_of_map map_error.KeyIsView = Kind
told_of_map (map_error.KeysBroken row) = Keys row
told_of_map map_error.Memory = Memory

-- The refusal of one mapping more, of a view that has this schema and these rows: by the schema; or it would be the 65th; or by the rows; or
-- the view has one.
abbrev pub put_due : By → ℕ → List Attribute → List (List Datum) → List MappedView → List ℕ → Option MappingError
put_due by keys schema rows all view =
    option_or (schema_due keys schema)
    (option_or (refused_if (nat_le max_mappings (length all)) Limit)
    (option_or (rows_due by keys rows)
    (refused_if (is_mapped all view) InUse)))

-- A call that looks at rows answers the refusal that is due, or none where none is. By an index memory may be wanting in place of either, since
-- the keys are put in order; rows in the order of their keys are looked at without memory.
abbrev pub AnswersRows : {T : Type 0} → By → Option MappingError → Result T MappingError → Type 0
AnswersRows Hash (Some e) result = (result ≡ Err e) ⊎ (result ≡ Err Memory)
AnswersRows Hash None result = IfErr result (λ e. e ≡ Memory)
AnswersRows Order due result = result_err result ≡ due

-- A call answers the refusal that is due, exactly where it is found without memory. Only an index takes memory before a refusal, so by one
-- memory may be wanting in place of a repeated key, and of a view that has a mapping, which comes behind all keys. Where none is due it is
-- done, or memory was wanting.
abbrev pub AnswersPut : {T : Type 0} → By → Option MappingError → Result T MappingError → Type 0
AnswersPut Hash (Some (Keys row)) result = (result ≡ Err (Keys row)) ⊎ (result ≡ Err Memory)
AnswersPut Hash (Some InUse) result = (result ≡ Err InUse) ⊎ (result ≡ Err Memory)
AnswersPut by (Some e) result = result ≡ Err e
AnswersPut by None result = IfErr result (λ e. e ≡ Memory)

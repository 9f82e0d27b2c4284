-- The view that a route names, and the values that literals become in it.
use Rattle.std.specs.Prelude.{ℕ, List, [], ◌∷◌, length}
use Rattle.std.specs.Option.{option_map, unwrap_or}
use Rattle.std.specs.Result.{result_unwrap_or}
use Rattle.mk_value.specs.Conversions.{becomes}
use Rattle.mk_value.specs.Data.{Datum}
use Rattle.mk_value.specs.Heading.{Domain, Attribute}
use Rattle.mk_value.specs.Paths.{Route}
use Rattle.mk_value.specs.Tables.{domain_at}
use Rattle.view_store.specs.Refusals.{schema_of}
use Rattle.tables.specs.Tables.{place_of_property}
use Rattle.view_store.specs.Views.{NamedTable, view_at}

-- the schema and the rows of the view that a route names; none where it names no view
abbrev pub schema_named : List NamedTable → Route → List Attribute
schema_named root route = result_unwrap_or (schema_of root route) []

abbrev pub rows_named : List NamedTable → Route → List (List Datum)
rows_named root route = unwrap_or (option_map (λ t. t.rows) (view_at root route)) []

abbrev pub size_named : List NamedTable → Route → ℕ
size_named root route = length (rows_named root route)

-- the values that literals become under the first properties of a schema
abbrev pub values_for : List Attribute → List Datum → List Datum
values_for (a ∷ schema) (d ∷ literals) = becomes d a.domain ∷ values_for schema literals
values_for _ _ = []

-- the domain of the property of a name
abbrev pub domain_named : List Attribute → List ℕ → Domain
domain_named schema name = domain_at schema (place_of_property schema name)

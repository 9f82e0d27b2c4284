-- Refusals: what an edit, or a look at a table, is due to answer. They are tested in this order, over the whole path: whether the
-- view is there, each property that is named, each kind, each place, the size after the edit.
use Rattle.std.specs.Prelude.{◌≡◌, ℕ, ◌+◌, if◌then◌else◌, nat_lt, List, [], ◌∷◌, length, Option, Some, None, Result, Ok, Err, IfErr}
use Rattle.std.specs.Option.{option_or}
use Rattle.mk_value.specs.declared.path.Step.{Step}
use Rattle.mk_value.specs.Limits.{max_rows}
use Rattle.mk_value.specs.Heading.{Domain, Attribute, attributes_of, find}
use Rattle.mk_value.specs.Data.{Datum, cell}
use Rattle.mk_value.specs.Paths.{Route}
use Rattle.mk_value.specs.Tables.{domain_at}
use Rattle.view_store.specs.declared.error.EditError.{EditError}
use Rattle.view_store.specs.declared.error.EditError.TheVariants.{NoView, NoProp, WrongKind, OutOfRange, TooMany, Memory}
use Rattle.tables.specs.Homes.{rows_in}
use Rattle.tables.specs.Tables.{StoredTable, place_of_property, inner_schema}
use Rattle.view_store.specs.Fitting.{is_of, are_of}
use Rattle.view_store.specs.Edits.{Edit, insert, set, remove}
use Rattle.view_store.specs.Views.{NamedTable, table_of}

-- what follows at the schema of a property, or the refusal of one that is no view
abbrev pub in_view : Domain → (List Attribute → Result (List Attribute) EditError) → Result (List Attribute) EditError
in_view (Domain.relation h) next = next (attributes_of h)
in_view _ next = Err WrongKind

abbrev pub in_property : List Attribute → Option ℕ → (List Attribute → Result (List Attribute) EditError) → Result (List Attribute) EditError
in_property schema None next = Err NoProp
in_property schema (Some k) next = in_view (domain_at schema k) next

-- the schema to which the steps lead, from the left: behind a property that is absent or no view nothing is looked at
abbrev pub schema_at : List Step → List Attribute → Result (List Attribute) EditError
schema_at [] schema = Ok schema
schema_at (s ∷ steps) schema = in_property schema (find schema s.prop) (λ inner. schema_at steps inner)

-- the schema of the view that a route names, or the first refusal of its name and properties; no row is looked at
abbrev pub schema_in : Option StoredTable → List Step → Result (List Attribute) EditError
schema_in None steps = Err NoView
schema_in (Some t) steps = schema_at steps t.schema

abbrev pub schema_of : List NamedTable → Route → Result (List Attribute) EditError
schema_of views route = schema_in (table_of views route.name) route.steps

-- the rows to which the steps lead, from the left: behind a row that is not there nothing is looked at
abbrev pub rows_at : List Step → List Attribute → List (List Datum) → Result (List (List Datum)) EditError
rows_at [] schema rows = Ok rows
rows_at (s ∷ steps) schema rows =
    let k = place_of_property schema s.prop in
    if nat_lt s.row (length rows) then rows_at steps (inner_schema (domain_at schema k)) (rows_in (cell rows s.row k))
    else Err (OutOfRange (length rows))

-- the refusal of a value for a property: the property is absent, or the value does not fit
abbrev pub value_refusal : List Attribute → Option ℕ → Datum → Option EditError
value_refusal schema None d = Some NoProp
value_refusal schema (Some k) d = if is_of d (domain_at schema k) then None else Some WrongKind

-- the refusal of an edit by the schema of the rows alone: more values than properties, an absent property, a value that does not fit
abbrev pub kind_refusal : List Attribute → Edit → Option EditError
kind_refusal schema (insert at row n) =
    if nat_lt (length schema) (length row) then Some NoProp else (if are_of row schema then None else Some WrongKind)
kind_refusal schema (set i prop d) = value_refusal schema (find schema prop) d
kind_refusal schema (remove at n) = None

-- the refusal of an edit by the number of rows: a place past them, or too many rows after it
abbrev pub range_refusal : ℕ → Edit → Option EditError
range_refusal size (insert at row n) =
    if nat_lt size at then Some (OutOfRange size)
    else (if nat_lt max_rows (size + n) then Some (TooMany (size + n)) else None)
range_refusal size (set i prop d) = if nat_lt i size then None else Some (OutOfRange size)
range_refusal size (remove at n) = if nat_lt size (at + n) then Some (OutOfRange size) else None

-- the refusal that ended a walk, or that of its end
abbrev pub or_at_end : {X : Type 0} → Result X EditError → (X → Option EditError) → Option EditError
or_at_end (Err e) end = Some e
or_at_end (Ok x) end = end x

-- the first refusal that an edit in a table is due, if there is one
abbrev pub due_in : StoredTable → List Step → Edit → Option EditError
due_in t steps edit =
    option_or (or_at_end (schema_at steps t.schema) (λ schema. kind_refusal schema edit))
    (or_at_end (rows_at steps t.schema t.rows) (λ rows. range_refusal (length rows) edit))

-- the first refusal that a look at a table inside another is due
abbrev pub look_due_in : StoredTable → List Step → Option EditError
look_due_in t steps =
    option_or (or_at_end (schema_at steps t.schema) (λ _. None)) (or_at_end (rows_at steps t.schema t.rows) (λ _. None))

abbrev pub at_view : Option StoredTable → (StoredTable → Option EditError) → Option EditError
at_view None inside = Some NoView
at_view (Some t) inside = inside t

-- the first refusal that an edit of the named views is due, if there is one
abbrev pub due : List NamedTable → Route → Edit → Option EditError
due views route edit = at_view (table_of views route.name) (λ t. due_in t route.steps edit)

-- the first refusal that a look at a view is due
abbrev pub look_due : List NamedTable → Route → Option EditError
look_due views route = at_view (table_of views route.name) (λ t. look_due_in t route.steps)

-- a call answers the refusal that is due; where none is due it is done, or memory was wanting
abbrev pub AnswersDue : {T : Type 0} → Option EditError → Result T EditError → Type 0
AnswersDue (Some e) result = result ≡ Err e
AnswersDue None result = IfErr result (λ e. e ≡ Memory)

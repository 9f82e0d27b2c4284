-- Refusals: which one a command is due, if any. Where several stand together, the first in this order is due: the name, the properties,
-- the kinds, the rows and places, the limits. A refused command changes nothing.
use Rattle.std.specs.Prelude.{◌≡◌, ◌⊎◌, ℕ, ◌+◌, Bool, ◌&&◌, if◌then◌else◌, nat_lt, nat_le, List, [], ◌∷◌, length, Option, Some, None, Result, Ok, Err, MatchResult}
use Rattle.std.specs.Option.{option_map}
use Rattle.mk_value.specs.Data.{Datum}
use Rattle.mk_value.specs.Heading.{Attribute, find}
use Rattle.mk_value.specs.Limits.{max_rows}
use Rattle.mk_value.specs.Paths.{Route}
use Rattle.mk_value.specs.Tables.{domain_at}
use Rattle.cmd_text.specs.declared.error.CmdError.{CmdError}
use Rattle.cmd_text.specs.declared.error.CmdError.TheVariants as reading
use Rattle.cmd_text.specs.declared.refusal.Refusal.{Refusal}
use Rattle.cmd_text.specs.declared.refusal.Refusal.TheVariants.{Memory, Syntax, NoName, Exists, Range, NoProp, Kind, Limit, Floating, Disk, Full, LastNumber, ReadOnly, Damaged}
use Rattle.recovery.specs.declared.error.OpenError.{OpenError}
use Rattle.recovery.specs.declared.error.OpenError.TheVariants as opening
use Rattle.storage.specs.declared.error.PlanError.{PlanError}
use Rattle.storage.specs.declared.error.PlanError.TheVariants as planning
use Rattle.storage.specs.declared.error.RevertError.{RevertError}
use Rattle.storage.specs.declared.error.RevertError.TheVariants as reverting
use Rattle.view_store.specs.declared.error.EditError.{EditError}
use Rattle.view_store.specs.declared.error.EditError.TheVariants as edits
use Rattle.view_store.specs.Refusals.{look_due, schema_of}
use Rattle.view_store.specs.Views.{NamedTable}
use Rattle.session.specs.Fitting.{all_fit, all_short, fits, is_short}
use Rattle.session.specs.Values.{size_named}

-- the most copies of one `insert`
abbrev pub max_copies : ℕ
max_copies = 65_536

-- how a line that was not read is refused
abbrev pub refusal_of_reading : CmdError → Refusal
refusal_of_reading (reading.Syntax place) = Syntax place
refusal_of_reading (reading.Floating place) = Floating place
refusal_of_reading reading.Repeated = Exists
refusal_of_reading reading.TooLarge = Limit
refusal_of_reading reading.Memory = Memory

-- how an edit or a look that the views refuse is refused
abbrev pub refusal_of_edit : EditError → Refusal
refusal_of_edit edits.NoView = NoName
refusal_of_edit edits.NoProp = NoProp
refusal_of_edit edits.WrongKind = Kind
refusal_of_edit (edits.OutOfRange size) = Range size
refusal_of_edit (edits.TooMany size) = Limit
refusal_of_edit edits.Memory = Memory

-- how it is told that a commit is not planned
abbrev pub refusal_of_plan : PlanError → Refusal
refusal_of_plan planning.ReadOnly = ReadOnly
refusal_of_plan planning.LastNumber = LastNumber
refusal_of_plan (planning.Full end cap) = Full end cap
refusal_of_plan planning.Memory = Memory

-- how it is told that a file is not opened anew
abbrev pub refusal_of_opening : OpenError → Refusal
refusal_of_opening opening.NotAStore = Damaged 0
refusal_of_opening (opening.Damaged place) = Damaged place
refusal_of_opening opening.Failed = Disk
refusal_of_opening opening.Memory = Memory

-- how it is told that the commit before is not brought back, where the store has one
abbrev pub refusal_of_revert : RevertError → Refusal
refusal_of_revert reverting.NoBefore = Damaged 0
refusal_of_revert (reverting.Damaged place) = Damaged place
refusal_of_revert reverting.Failed = Disk
refusal_of_revert reverting.Memory = Memory

-- the first refusal of these that is due
abbrev pub first_of : List (Option Refusal) → Option Refusal
first_of [] = None
first_of (Some refusal ∷ rest) = Some refusal
first_of (None ∷ rest) = first_of rest

abbrev pub unless : Bool → Refusal → Option Refusal
unless holds refusal = if holds then None else Some refusal

-- by the schemas alone: of the name and the properties of a route, or of what is asked of the schema to which it leads
abbrev pub by_schema : Result (List Attribute) EditError → (List Attribute → Option Refusal) → Option Refusal
by_schema (Err e) asked = Some (refusal_of_edit e)
by_schema (Ok schema) asked = asked schema

-- by the rows on a route
abbrev pub by_rows : List NamedTable → Route → Option Refusal
by_rows root route = option_map refusal_of_edit (look_due root route)

-- of literals for the first properties of a schema: there are more than properties, or one does not fit
abbrev pub literals_refusal : List Datum → List Attribute → Option Refusal
literals_refusal literals schema =
    first_of (unless (nat_le (length literals) (length schema)) NoProp ∷ unless (all_fit literals schema) Kind ∷ [])

-- of a literal for the property at a place: there is none, or it does not fit
abbrev pub literal_refusal : Datum → List Attribute → Option ℕ → Option Refusal
literal_refusal literal schema None = Some NoProp
literal_refusal literal schema (Some k) = unless (fits literal (domain_at schema k)) Kind

-- of a place before, or behind the last of, so many rows; of a row of them; and of so many of them from a place on
abbrev pub place_refusal : ℕ → ℕ → Option Refusal
place_refusal size place = unless (nat_le place size) (Range size)

abbrev pub row_refusal : ℕ → ℕ → Option Refusal
row_refusal size row = unless (nat_lt row size) (Range size)

abbrev pub rows_refusal : ℕ → ℕ → ℕ → Option Refusal
rows_refusal size place rows = unless (nat_le (place + rows) size) (Range size)

-- of so many more rows, of one command
abbrev pub copies_refusal : ℕ → ℕ → Option Refusal
copies_refusal size copies = unless (nat_le copies max_copies && nat_le (size + copies) max_rows) Limit

-- `insert`: copies of a row of these literals, before a place
abbrev pub insert_due : List NamedTable → Route → ℕ → ℕ → List Datum → Option Refusal
insert_due root route place copies literals =
    first_of (by_schema (schema_of root route) (λ schema. literals_refusal literals schema)
    ∷ by_rows root route
    ∷ place_refusal (size_named root route) place
    ∷ copies_refusal (size_named root route) copies
    ∷ unless (all_short literals) Limit
    ∷ [])

-- `add`: one row of these literals, behind the last
abbrev pub add_due : List NamedTable → Route → List Datum → Option Refusal
add_due root route literals = insert_due root route (size_named root route) 1 literals

-- `set`: a literal for a property of a row
abbrev pub set_due : List NamedTable → Route → ℕ → List ℕ → Datum → Option Refusal
set_due root route row prop literal =
    first_of (by_schema (schema_of root route) (λ schema. literal_refusal literal schema (find schema prop))
    ∷ by_rows root route
    ∷ row_refusal (size_named root route) row
    ∷ unless (is_short literal) Limit
    ∷ [])

-- `remove`: so many rows from a place on
abbrev pub remove_due : List NamedTable → Route → ℕ → ℕ → Option Refusal
remove_due root route place rows = first_of (by_rows root route ∷ rows_refusal (size_named root route) place rows ∷ [])

-- what was done was due no refusal; what was refused is refused as is due, or for want of memory
abbrev pub AnswersDue : {T : Type 0} → Option Refusal → Result T Refusal → Type 0
AnswersDue due result = MatchResult result (λ _. due ≡ None) (λ refusal. (due ≡ Some refusal) ⊎ (refusal ≡ Memory))

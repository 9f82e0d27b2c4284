-- What names stand for, and the table to which a path leads.
use Rattle.std.specs.Prelude.{◌≡◌, ◌⊎◌, ℕ, Bool, true, if◌then◌else◌, nat_lt, List, [], ◌∷◌, length, Option, Some, None, Result, Ok, Err, find}
use Rattle.mk_value.specs.declared.path.Step.{Step}
use Rattle.mk_value.specs.Data.{Datum, cell, relation, rows_of}
use Rattle.mk_value.specs.Heading.{Domain, Attribute, attributes_of}
use Rattle.mk_value.specs.Heading as heading
use Rattle.mk_value.specs.Names.{same_bytes}
use Rattle.mk_value.specs.Paths.{Route}
use Rattle.mk_value.specs.Tables.{Table, domain_at}
use Rattle.derived.specs.Layers.{Layered, table_of}
use Rattle.eval.specs.declared.error.NameError.{NameError}
use Rattle.eval.specs.declared.error.NameError.TheVariants.{NoName, NoProp, WrongKind, OutOfRange, Memory}

-- a name, the table that it stands for, and whether steps may follow it
pub record Named : Type 0 where
  pub name : List ℕ
  pub table : Table
  pub has_steps : Bool

-- what follows where something was found
abbrev pub continued : {X Y E : Type 0} → Result X E → (X → Result Y E) → Result Y E
continued (Err e) next = Err e
continued (Ok x) next = next x

-- the schema inside a property, and why there is none
abbrev pub inside : Domain → Result (List Attribute) NameError
inside (Domain.relation h) = Ok (attributes_of h)
inside _ = Err WrongKind

abbrev pub inside_property : List Attribute → Option ℕ → Result (List Attribute) NameError
inside_property schema None = Err NoProp
inside_property schema (Some k) = inside (domain_at schema k)

-- the schema to which steps lead, from the left; no row is looked at
abbrev pub schema_at : List Step → List Attribute → Result (List Attribute) NameError
schema_at [] schema = Ok schema
schema_at (s ∷ steps) schema = continued (inside_property schema (heading.find schema s.prop)) (λ inner. schema_at steps inner)

-- the column of a property of this place, and its schema and rows in a row
abbrev pub column_found : Option ℕ → ℕ
column_found (Some k) = k
column_found None = 0

abbrev pub inner_schema : Domain → List Attribute
inner_schema (Domain.relation h) = attributes_of h
inner_schema _ = []

abbrev pub inner_rows : Datum → List (List Datum)
inner_rows (relation r) = rows_of r
inner_rows _ = []

-- the rows to which steps lead, from the left
abbrev pub rows_at : List Step → List Attribute → List (List Datum) → Result (List (List Datum)) NameError
rows_at [] schema rows = Ok rows
rows_at (s ∷ steps) schema rows =
    let k = column_found (heading.find schema s.prop) in
    if nat_lt s.row (length rows) then rows_at steps (inner_schema (domain_at schema k)) (inner_rows (cell rows s.row k))
    else Err (OutOfRange (length rows))

-- the table to which steps lead: all properties are looked at before a row is
abbrev pub table_at : List Step → Table → Result Table NameError
table_at steps t =
    continued (schema_at steps t.schema) (λ schema. continued (rows_at steps t.schema t.rows) (λ rows. Ok (record { schema = schema; rows = rows })))

-- steps may follow, or none does
abbrev pub may_follow : Bool → List Step → Bool
may_follow has_steps [] = true
may_follow has_steps (_ ∷ _) = has_steps

-- the first of a name decides
abbrev pub seen_at : Option Named → List Step → Result Table NameError
seen_at None steps = Err NoName
seen_at (Some n) steps = if may_follow n.has_steps steps then table_at steps n.table else Err NoName

abbrev pub view_at : List Named → Route → Result Table NameError
view_at names route = seen_at (find (λ n. same_bytes n.name route.name) names) route.steps

-- a call answers what a path leads to: the table, or the refusal; or memory was wanting
abbrev pub IsSeen : Result Table NameError → Result Layered NameError → Type 0
IsSeen found (Ok d) = found ≡ Ok (table_of d)
IsSeen found (Err e) = (e ≡ Memory) ⊎ (found ≡ Err e)

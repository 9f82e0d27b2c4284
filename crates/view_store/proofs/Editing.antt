-- An edit that nothing refuses: what is known of it, and what it leaves.
use Rattle.std.proofs.Common.{◌≡◌, ℕ, zero, suc, ◌+◌, ◌<◌, ◌≤◌, Bool, true, false, cond, ltb, List, [], ◌∷◌, ◌++◌, length, map, Option, Some, None, Result, Ok, Err, OnOk, OnErr, refl, ap, sym, subst, ◌∙◌, arith}
use Rattle.std.specs.Prelude.{IfOk, IsOk}
use Rattle.std.specs.Option.{option_or}
use Rattle.std.specs.Result.{IsErrAnd}
use Rattle.std.proofs.lemmas.Bool.Decides.{nat_tests}
use Rattle.std.proofs.lemmas.List.{append-nil, drop_all}
use Rattle.mk_value.specs.declared.path.Step.{Step}
use Rattle.mk_value.specs.Limits.{max_rows}
use Rattle.mk_value.specs.Heading.{Domain, Attribute, attributes_of, heading_of, find}
use Rattle.mk_value.specs.Data.{Datum, IsOf, IsRowOf, default_of}
use Rattle.mk_value.specs.Tables.{domain_at}
use Rattle.view_store.specs.declared.error.EditError.{EditError}
use Rattle.view_store.specs.declared.error.EditError.TheVariants.{NoProp, WrongKind, OutOfRange}
use Rattle.tables.specs.Tables.{StoredTable, inner_schema, inner_table}
use Rattle.view_store.specs.Fitting.{is_of, are_of}
use Rattle.tables.specs.Rows.{completed}
use Rattle.view_store.specs.Edits.{Edit, edited}
use Rattle.view_store.specs.Refusals.{schema_at, or_at_end, kind_refusal, value_refusal, due_in, AnswersDue}
use Rattle.view_store.proofs.Fitting.{is_of_tells, completed_fits}
use Rattle.mk_value.proofs.Headings.{heading_of-attributes_of}
use Rattle.view_store.proofs.Walking.{goes_through}

none_both : {X : Type 0} (o p : Option X) → option_or o p ≡ None → (o ≡ None) × (p ≡ None)
none_both None p e = (refl, e)
none_both (Some x) p e = absurd (let f : Some x ≡ None = e in cc)

some_none : {X P : Type 0} (x : X) → Some x ≡ None → P
some_none x e = absurd (let f : Some x ≡ None = e in cc)

no_kind_refusal : (many fit : Bool) → cond many (Some NoProp) (cond fit None (Some WrongKind)) ≡ None → (many ≡ false) × (fit ≡ true)
no_kind_refusal true fit e = some_none NoProp e
no_kind_refusal false true e = (refl, refl)
no_kind_refusal false false e = some_none WrongKind e

no_range_refusal : (past many : Bool) (x y : EditError) → cond past (Some x) (cond many (Some y) None) ≡ None → (past ≡ false) × (many ≡ false)
no_range_refusal true many x y e = some_none x e
no_range_refusal false true x y e = some_none y e
no_range_refusal false false x y e = (refl, refl)

passes : (b : Bool) (x : EditError) → cond b None (Some x) ≡ None → b ≡ true
passes true x e = refl
passes false x e = some_none x e

at_most : (a b : ℕ) → ltb a b ≡ false → b ≤ a
at_most a b e = grind (arith, nat_tests)

below : (a b : ℕ) → ltb a b ≡ true → a < b
below a b e = grind (arith, nat_tests)

-- rows that may be put in
pub record MayInsert (schema : List Attribute) (size at : ℕ) (values : List Datum) (n : ℕ) : Type 0 where
  pub few_values : length values ≤ length schema
  pub fit : are_of values schema ≡ true
  pub within : at ≤ size
  pub room : size + n ≤ max_rows

pub may_insert : (t : StoredTable) (at n : ℕ) (values : List Datum) → due_in t [] (Edit.insert at values n) ≡ None → MayInsert t.schema (length t.rows) at values n
may_insert t at n values e =
    let parts = none_both _ _ e in
    let kinds = no_kind_refusal (ltb (length t.schema) (length values)) (are_of values t.schema) parts.0 in
    let ranges = no_range_refusal (ltb (length t.rows) at) (ltb max_rows (length t.rows + n)) _ _ parts.1 in
    record {
      few_values = at_most _ _ kinds.0;
      fit = kinds.1;
      within = at_most _ _ ranges.0;
      room = at_most _ _ ranges.1;
    }

-- the row that is put in is one of the schema
pub completed_row_fits : (t : StoredTable) (at n : ℕ) (values full : List Datum) → MayInsert t.schema (length t.rows) at values n → full ≡ completed t.schema values → IsRowOf full t.schema
completed_row_fits t at n values full may e = subst (λ row. IsRowOf row t.schema) (sym e) (completed_fits values t.schema may.few_values may.fit)

-- a row that has a value for each property is completed
pub completed_whole : (schema : List Attribute) (row : List Datum) → length row ≡ length schema → completed schema row ≡ row
completed_whole schema row e =
    ap (λ rest. row ++ map (λ a. default_of a.domain) rest) (drop_all (length row) schema (omega (arith, e))) ∙ append-nil row

-- a value that may be set
pub record MaySet (schema : List Attribute) (size i k : ℕ) (d : Datum) : Type 0 where
  pub within : i < size
  pub fits : IsOf d (domain_at schema k)

pub may_set : (t : StoredTable) (i k : ℕ) (prop : List ℕ) (d : Datum) → find t.schema prop ≡ Some k → due_in t [] (Edit.set i prop d) ≡ None → MaySet t.schema (length t.rows) i k d
may_set t i k prop d found e =
    let parts = none_both _ _ e in
    let fits = passes (is_of d (domain_at t.schema k)) WrongKind (sym (ap (λ o. value_refusal t.schema o d) found) ∙ parts.0) in
    record {
      within = below _ _ (passes (ltb i (length t.rows)) (OutOfRange (length t.rows)) parts.1);
      fits = (is_of_tells d (domain_at t.schema k)).0 fits;
    }

-- Along a path.
pub ended_well : {X : Type 0} (r : Result X EditError) (f : X → Option EditError) → or_at_end r f ≡ None → IsOk r
ended_well (Ok x) f e = refl
ended_well (Err x) f e = some_none x e

pub free_schema : (t : StoredTable) (steps : List Step) (edit : Edit) → due_in t steps edit ≡ None → IsOk (schema_at steps t.schema)
free_schema t steps edit e = ended_well (schema_at steps t.schema) (λ s. kind_refusal s edit) (none_both _ _ e).0

-- an edit keeps the schema
pub edited-schema : (steps : List Step) (edit : Edit) (t : StoredTable) → (edited steps edit t).schema ≡ t.schema
edited-schema [] (Edit.insert at row zero) t = refl
edited-schema [] (Edit.insert at row (suc n)) t = refl
edited-schema [] (Edit.set i prop d) t = refl
edited-schema [] (Edit.remove at zero) t = refl
edited-schema [] (Edit.remove at (suc n)) t = refl
edited-schema (s ∷ steps) edit t = refl

-- a table in a cell that was edited may be put in its place: it has the schema of the view
pub fits_again : (t : StoredTable) (s : Step) (steps : List Step) (edit : Edit) (i k : ℕ) (inner was : StoredTable) → due_in t (s ∷ steps) edit ≡ None → find t.schema s.prop ≡ Some k
    → was ≡ inner_table t i k → inner ≡ edited steps edit was → domain_at t.schema k ≡ Domain.relation (heading_of inner.schema)
fits_again t s steps edit i k inner was free found e f =
    let through = goes_through t.schema s steps (free_schema t (s ∷ steps) edit free) in
    let place : through.place ≡ k = let e : Some through.place ≡ Some k = sym through.found ∙ found in cc in
    let view : domain_at t.schema k ≡ Domain.relation through.inner = ap (λ j. domain_at t.schema j) (sym place) ∙ through.view in
    let schema : inner.schema ≡ attributes_of through.inner =
    ap (λ (u : StoredTable). u.schema) f ∙ edited-schema steps edit was ∙ ap (λ (u : StoredTable). u.schema) e ∙ ap inner_schema view in
    view ∙ ap Domain.relation (sym (ap heading_of schema ∙ heading_of-attributes_of through.inner))

-- A fact of what a call leaves, by its answer.
pub by_answer : {T E X : Type 0} (P : X → Type 0) (r : Result T E) (new old target : X) → OnOk r (new ≡ target) → OnErr r (new ≡ old) → P target → P old → P new
by_answer P (Ok x) new old target ok err p q = subst P (sym ok) p
by_answer P (Err x) new old target ok err p q = subst P (sym err) q

pub OnOk-then : {T E P Q : Type 0} (r : Result T E) → OnOk r P → (P → Q) → OnOk r Q
OnOk-then (Ok x) h f = f h
OnOk-then (Err x) h f = tt

pub OnErr-then : {T E P Q : Type 0} (r : Result T E) → OnErr r P → (P → Q) → OnErr r Q
OnErr-then (Ok x) h f = tt
OnErr-then (Err x) h f = f h

pub IfOk-then : {T E : Type 0} {P Q : T → Type 0} (r : Result T E) → IfOk r P → ((x : T) → P x → Q x) → IfOk r Q
IfOk-then (Ok x) h f = f x h
IfOk-then (Err x) h f = tt

-- an answer that is due, handed on by a call of another type
pub due_done : {X Y : Type 0} (o : Option EditError) (x : X) (y : Y) → AnswersDue o (Ok x) → AnswersDue o (Ok y)
due_done None x y h = tt
due_done {X} (Some e) x y h = absurd (let f : ◌≡◌ {A = Result X EditError} (Ok x) (Err e) = h in cc)

pub due_failed : (X : Type 0) {Y : Type 0} (o : Option EditError) (r : Result Y EditError) (e : EditError) → IsErrAnd r (λ x. x ≡ e) → AnswersDue {T = X} o (Err e) → AnswersDue o r
due_failed X o (Ok y) e h g = absurd h
due_failed X None (Err x) e h g = h ∙ g
due_failed X (Some d) (Err x) e h g = ap Err (h ∙ (let f : ◌≡◌ {A = Result X EditError} (Err e) (Err d) = g in cc))

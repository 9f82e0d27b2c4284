-- Edits that are due no refusal.
use Rattle.std.proofs.Common.{◌≡◌, ℕ, ◌+◌, ◌<◌, ◌≤◌, true, false, cond, ltb, leb, List, [], ◌∷◌, length, Option, Some, None, Result, Ok, Err, refl, ap, sym, subst, ◌∙◌, arith}
use Rattle.std.specs.Option.{option_map, option_or, unwrap_or}
use Rattle.std.proofs.lemmas.Bool.Decides.{nat_tests}
use Rattle.mk_value.specs.declared.path.Step.{Step}
use Rattle.mk_value.specs.Heading.{Attribute, find}
use Rattle.mk_value.specs.Data.{Datum, IsOf, cell}
use Rattle.mk_value.specs.Limits.{max_rows}
use Rattle.mk_value.specs.Paths.{Route}
use Rattle.mk_value.specs.Tables.{domain_at}
use Rattle.cmd_text.specs.declared.refusal.Refusal.TheVariants.{NoProp, Range}
use Rattle.std.specs.Result.{result_unwrap_or}
use Rattle.view_store.specs.declared.error.EditError.TheVariants as edits
use Rattle.view_store.specs.declared.error.EditError.{EditError}
use Rattle.view_store.specs.declared.error.EditError.TheVariants.{NoView, OutOfRange}
use Rattle.view_store.specs.Edits.{Edit, table_at}
use Rattle.view_store.specs.Fitting.{are_of}
use Rattle.tables.specs.Homes.{rows_in}
use Rattle.view_store.specs.Refusals.{at_view, due, due_in, kind_refusal, look_due_in, or_at_end, range_refusal, rows_at, schema_at, schema_in, schema_of, value_refusal}
use Rattle.tables.specs.Tables.{StoredTable, inner_schema, inner_table, place_of_property}
use Rattle.view_store.specs.Views.{NamedTable, table_of}
use Rattle.view_store.proofs.Fitting.{is_of_tells}
use Rattle.session.specs.Refusals.{by_rows, by_schema, literal_refusal, refusal_of_edit, row_refusal, rows_refusal}
use Rattle.session.proofs.Fitted.{unless_none}
use Rattle.session.specs.Values.{domain_named, schema_named, size_named, values_for}

some_none : {X : Type 0} (x : X) → Some x ≡ None → ⊥
some_none x e = let f : ◌≡◌ {A = Option _} (Some x) None = e in cc

-- the rows of the table to which steps lead are those that were walked to
table_rows : (steps : List Step) (t : StoredTable) (rows : List (List Datum)) → rows_at steps t.schema t.rows ≡ Ok rows → (table_at steps t).rows ≡ rows
table_rows [] t rows e = let f : ◌≡◌ {A = Result (List (List Datum)) EditError} (Ok t.rows) (Ok rows) = e in cc
table_rows (s ∷ steps) t rows e =
    let k = place_of_property t.schema s.prop in
    let inside = rows_at steps (inner_schema (domain_at t.schema k)) (rows_in (cell t.rows s.row k)) in
    elim (ltb s.row (length t.rows)) as (λ b. cond b inside (Err (OutOfRange (length t.rows))) ≡ Ok rows → (table_at steps (inner_table t s.row k)).rows ≡ rows) [
      | true ↦ λ f. table_rows steps (inner_table t s.row k) rows f
      | false ↦ λ f. absurd (let g : ◌≡◌ {A = Result (List (List Datum)) EditError} (Err (OutOfRange (length t.rows))) (Ok rows) = f in cc)
    ] e

-- What a route leads to, where no refusal of its names or rows is due.
pub record Leads (root : List NamedTable) (route : Route) : Type 0 where
  pub table : StoredTable
  pub schema : List Attribute
  pub rows : List (List Datum)
  pub found : table_of root route.name ≡ Some table
  pub to_schema : schema_at route.steps table.schema ≡ Ok schema
  pub to_rows : rows_at route.steps table.schema table.rows ≡ Ok rows

leads_in : (root : List NamedTable) (route : Route) (t : StoredTable) (s : Result (List Attribute) EditError) (r : Result (List (List Datum)) EditError) → table_of root route.name ≡ Some t
    → schema_at route.steps t.schema ≡ s → rows_at route.steps t.schema t.rows ≡ r
    → option_map refusal_of_edit (option_or (or_at_end s (λ _. None)) (or_at_end r (λ _. None))) ≡ None → Leads root route
leads_in root route t (Err e) r found to_schema to_rows h = absurd (some_none (refusal_of_edit e) h)
leads_in root route t (Ok schema) (Err e) found to_schema to_rows h = absurd (some_none (refusal_of_edit e) h)
leads_in root route t (Ok schema) (Ok rows) found to_schema to_rows h =
    record { table = t; schema = schema; rows = rows; found = found; to_schema = to_schema; to_rows = to_rows }

leads_from : (root : List NamedTable) (route : Route) (o : Option StoredTable) → table_of root route.name ≡ o → option_map refusal_of_edit (at_view o (λ t. look_due_in t route.steps)) ≡ None → Leads root route
leads_from root route None found h = absurd (some_none (refusal_of_edit NoView) h)
leads_from root route (Some t) found h = leads_in root route t (schema_at route.steps t.schema) (rows_at route.steps t.schema t.rows) found refl refl h

pub leads : (root : List NamedTable) (route : Route) → by_rows root route ≡ None → Leads root route
leads root route h = leads_from root route (table_of root route.name) refl h

pub leads-schema_of : (root : List NamedTable) (route : Route) (l : Leads root route) → schema_of root route ≡ Ok l.schema
leads-schema_of root route l = ap (λ o. schema_in o route.steps) l.found ∙ l.to_schema

pub leads-schema : (root : List NamedTable) (route : Route) (l : Leads root route) → schema_named root route ≡ l.schema
leads-schema root route l = ap (λ r. result_unwrap_or r []) (leads-schema_of root route l)

pub leads-size : (root : List NamedTable) (route : Route) (l : Leads root route) → size_named root route ≡ length l.rows
leads-size root route l =
    ap (λ o. length (unwrap_or (option_map (λ (t : StoredTable). t.rows) (option_map (λ t. table_at route.steps t) o)) [])) l.found
    ∙ ap length (table_rows route.steps l.table l.rows l.to_rows)

-- an edit that the schema and the number of rows let through is due none
pub due-none : (root : List NamedTable) (route : Route) (edit : Edit) → by_rows root route ≡ None → kind_refusal (schema_named root route) edit ≡ None → range_refusal (size_named root route) edit ≡ None → due root route edit ≡ None
due-none root route edit rows kinds ranges =
    let l = leads root route rows in
    ap (λ o. at_view o (λ t. due_in t route.steps edit)) l.found
    ∙ ap (λ s. option_or (or_at_end s (λ schema. kind_refusal schema edit)) (or_at_end (rows_at route.steps l.table.schema l.table.rows) (λ rows. range_refusal (length rows) edit))) l.to_schema
    ∙ ap (λ r. option_or (kind_refusal l.schema edit) (or_at_end r (λ rows. range_refusal (length rows) edit))) l.to_rows
    ∙ ap (λ s. option_or (kind_refusal s edit) (range_refusal (length l.rows) edit)) (sym (leads-schema root route l))
    ∙ ap (λ o. option_or o (range_refusal (length l.rows) edit)) kinds
    ∙ ap (λ n. range_refusal n edit) (sym (leads-size root route l)) ∙ ranges

not_below : (i n : ℕ) → n ≤ i → ltb i n ≡ false
not_below i n p = grind (arith, nat_tests)

below : (i n : ℕ) → i < n → ltb i n ≡ true
below i n p = grind (arith, nat_tests)

no_more_values : (schema : List Attribute) (literals : List Datum) → length (values_for schema literals) ≤ length schema
no_more_values [] [] = omega arith
no_more_values [] (d ∷ literals) = omega arith
no_more_values (a ∷ schema) [] = omega arith
no_more_values (a ∷ schema) (d ∷ literals) = let p = no_more_values schema literals in omega (arith, p)

pub insert-none : (root : List NamedTable) (route : Route) (place copies size : ℕ) (row literals : List Datum) → by_rows root route ≡ None → size ≡ size_named root route → place ≤ size → size + copies ≤ max_rows
    → row ≡ values_for (schema_named root route) literals → are_of row (schema_named root route) ≡ true → due root route (Edit.insert place row copies) ≡ None
insert-none root route place copies size row literals rows is within few made whole =
    let schema = schema_named root route in
    let count : length row ≤ length schema = subst (λ r. length r ≤ length schema) (sym made) (no_more_values schema literals) in
    due-none root route (Edit.insert place row copies) rows
    (ap (λ b. cond b (Some edits.NoProp) (cond (are_of row schema) None (Some edits.WrongKind))) (not_below (length schema) (length row) count)
    ∙ ap (λ b. cond b None (Some edits.WrongKind)) whole)
    (ap (λ n. range_refusal n (Edit.insert place row copies)) (sym is)
    ∙ ap (λ b. cond b (Some (OutOfRange size)) (cond (ltb max_rows (size + copies)) (Some (edits.TooMany (size + copies))) None)) (not_below size place within)
    ∙ ap (λ b. cond b (Some (edits.TooMany (size + copies))) None) (not_below max_rows (size + copies) few))

pub remove-none : (root : List NamedTable) (route : Route) (place count size : ℕ) → by_rows root route ≡ None → size ≡ size_named root route → place + count ≤ size → due root route (Edit.remove place count) ≡ None
remove-none root route place count size rows is within =
    due-none root route (Edit.remove place count) rows refl
    (ap (λ n. range_refusal n (Edit.remove place count)) (sym is) ∙ ap (λ b. cond b (Some (OutOfRange size)) None) (not_below size (place + count) within))

value_fits : (schema : List Attribute) (o : Option ℕ) (d literal : Datum) → literal_refusal literal schema o ≡ None → IsOf d (domain_at schema (unwrap_or o 0)) → value_refusal schema o d ≡ None
value_fits schema None d literal h whole = absurd (some_none NoProp h)
value_fits schema (Some k) d literal h whole =
    ap (λ b. cond b None (Some edits.WrongKind)) ((is_of_tells d (domain_at schema k)).1 whole)

pub set-none : (root : List NamedTable) (route : Route) (row size : ℕ) (prop : List ℕ) (d literal : Datum) → by_rows root route ≡ None → size ≡ size_named root route → row < size
    → by_schema (schema_of root route) (λ schema. literal_refusal literal schema (find schema prop)) ≡ None
    → IsOf d (domain_named (schema_named root route) prop) → due root route (Edit.set row prop d) ≡ None
set-none root route row size prop d literal rows is within fit whole =
    let l = leads root route rows in
    let schema = schema_named root route in
    let named : schema_of root route ≡ Ok schema = leads-schema_of root route l ∙ ap Ok (sym (leads-schema root route l)) in
    let asked : literal_refusal literal schema (find schema prop) ≡ None =
    sym (ap (λ s. by_schema s (λ schema. literal_refusal literal schema (find schema prop))) named) ∙ fit in
    due-none root route (Edit.set row prop d) rows (value_fits schema (find schema prop) d literal asked whole)
    (ap (λ n. range_refusal n (Edit.set row prop d)) (sym is) ∙ ap (λ b. cond b None (Some (OutOfRange size))) (below row size within))

-- what the tests of rows and places let through
pub rows_within : (size place rows : ℕ) → rows_refusal size place rows ≡ None → place + rows ≤ size
rows_within size place rows e = let t = unless_none (leb (place + rows) size) (Range size) e in grind (arith, nat_tests)

pub row_within : (size row : ℕ) → row_refusal size row ≡ None → row < size
row_within size row e = let t = unless_none (ltb row size) (Range size) e in grind (arith, nat_tests)

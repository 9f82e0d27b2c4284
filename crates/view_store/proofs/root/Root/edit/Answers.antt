use Rattle.std.proofs.Common.{◌≡◌, ◌<◌, ◌≤◌, List, length, get_or, set, position, Ok, ap, sym, subst, ◌∙◌, arith, refl}
use Rattle.std.proofs.lemmas.List.{set-get_or}
use Rattle.mk_value.specs.Names.{same_bytes}
use Rattle.view_store.specs.Changes.{edit_of}
use Rattle.view_store.specs.Edits.{edited}
use Rattle.view_store.specs.Refusals.{AnswersDue, due_in}
use Rattle.tables.specs.Rests.{RestsOn}
use Rattle.tables.specs.Tables.{StoredTable}
use Rattle.mk_value.specs.Limits.{max_structure}
use Rattle.struct_text.specs.Lengths.{structure_length}
use Rattle.tables.proofs.EditedTables.{RestsOn-self}
use Rattle.view_store.specs.Views.{named, IsRoot}
use Rattle.view_store.proofs.Editing.{edited-schema, due_done, due_failed}
use Rattle.view_store.proofs.Named.{IsPlace-position, IsAbsent-position, no_view}
use Rattle.view_store.proofs.Roots.{root-set, rests-set, edited-root, short_at, found_table, absent_table, due-found, due-absent}
use Rattle.view_store.proofs.root.Root.edit.Goals as goal

pub returns-in_default-clause-due : goal.returns-in_default-clause-due
returns-in_default-clause-due c =
    let names = c.self.inside.names in
    let absent = IsAbsent-position names c.args.path.now.name (ap (λ n. position (λ known. same_bytes known n) names) (sym c.name.ensures) ∙ sym c.place_in.ensures ∙ c.in_default.is) in
    due-absent c.args.self.now c.args.path.now (edit_of c.args.change) _ (absent_table names c.self.inside.tables.items c.args.self.now c.args.path.now.name c.self.view_is c.self.invariant.paired absent) refl

pub returns-in_err-edit_table-clause-due : goal.returns-in_err-edit_table-clause-due
returns-in_err-edit_table-clause-due c =
    let names = c.self.inside.names in
    let tables = c.self.inside.tables.items in
    let root = c.self.invariant in
    let at = c.in-Some.at in
    let place = IsPlace-position names c.args.path.now.name at (ap (λ n. position (λ known. same_bytes known n) names) (sym c.name.ensures) ∙ sym c.place_in.ensures ∙ c.in-Some.is) in
    let within : at < length tables = let paired = root.paired in let here = place.within in omega arith in
    let t = c.index_mut.result.now in
    let found = found_table names tables c.args.self.now c.args.path.now.name at t c.self.view_is root.paired place within c.index_mut.ensures.value in
    let same = ap (λ ss. due_in t ss (edit_of c.args.change)) c.steps.ensures ∙ sym (due-found c.args.self.now c.args.path.now (edit_of c.args.change) t found) in
    subst (λ o. AnswersDue o c.from_residual.result) same (due_failed (Unit {0}) _ c.from_residual.result c.in_err-edit_table.field-0.0 c.from_residual.ensures.1 c.in_err-edit_table.ensures.due)

pub invariant_of-self : goal.invariant_of-self
invariant_of-self c =
    let tables = c.self.inside.tables.items in
    let at = c.in-Some.at in
    let P : List StoredTable → Type 0 = λ ts. IsRoot c.self.inside.names ts in
    let same : set tables at c.edit_table.new.table ≡ tables =
    ap (set tables at) (c.in_err-edit_table.ensures.err ∙ c.index_mut.ensures.value) ∙ set-get_or tables at c.index_mut.result.now in
    subst P (sym same) c.self.invariant

pub returns-in_err-edit_table-clause-rests : goal.returns-in_err-edit_table-clause-rests
returns-in_err-edit_table-clause-rests c =
    let names = c.self.inside.names in
    let tables = c.self.inside.tables.items in
    let root = c.self.invariant in
    let at = c.in-Some.at in
    let place = IsPlace-position names c.args.path.now.name at (ap (λ n. position (λ known. same_bytes known n) names) (sym c.name.ensures) ∙ sym c.place_in.ensures ∙ c.in-Some.is) in
    let within : at < length tables = let paired = root.paired in let here = place.within in omega arith in
    let t = c.index_mut.result.now in
    let rests = subst (λ (u : StoredTable). RestsOn u t) (sym c.in_err-edit_table.ensures.err) (RestsOn-self t) in
    rests-set names tables c.args.self.now at t c.edit_table.new.table c.self.view_is root.paired within c.index_mut.ensures.value rests

pub invariant_of-self-2 : goal.invariant_of-self-2
invariant_of-self-2 c =
    let names = c.self.inside.names in
    let tables = c.self.inside.tables.items in
    let root = c.self.invariant in
    let at = c.in-Some.at in
    let place = IsPlace-position names c.args.path.now.name at (ap (λ n. position (λ known. same_bytes known n) names) (sym c.name.ensures) ∙ sym c.place_in.ensures ∙ c.in-Some.is) in
    let within : at < length tables = let paired = root.paired in let here = place.within in omega arith in
    let t = c.index_mut.result.now in
    let e = edit_of c.args.change in
    let short = short_at names tables at t root within c.index_mut.ensures.value in
    let schema = ap (λ (u : StoredTable). u.schema) c.in_ok-edit_table.ensures.ok ∙ edited-schema c.steps.result.now e t in
    root-set names tables at c.edit_table.new.table root within c.in_ok-edit_table.ensures.whole c.in_ok-edit_table.ensures.homes
    (subst (λ s. structure_length (get_or (named names tables) at no_view).name s ≤ max_structure) (sym schema) short)

pub returns-clause-due : goal.returns-clause-due
returns-clause-due c =
    let names = c.self.inside.names in
    let tables = c.self.inside.tables.items in
    let root = c.self.invariant in
    let at = c.in-Some.at in
    let place = IsPlace-position names c.args.path.now.name at (ap (λ n. position (λ known. same_bytes known n) names) (sym c.name.ensures) ∙ sym c.place_in.ensures ∙ c.in-Some.is) in
    let within : at < length tables = let paired = root.paired in let here = place.within in omega arith in
    let t = c.index_mut.result.now in
    let found = found_table names tables c.args.self.now c.args.path.now.name at t c.self.view_is root.paired place within c.index_mut.ensures.value in
    let same = ap (λ ss. due_in t ss (edit_of c.args.change)) c.steps.ensures ∙ sym (due-found c.args.self.now c.args.path.now (edit_of c.args.change) t found) in
    subst (λ o. AnswersDue {T = Unit {0}} o (Ok tt)) same (due_done {X = Unit {0}} _ c.in_ok-edit_table.field-0 tt c.in_ok-edit_table.ensures.due)

pub returns-clause-ok : goal.returns-clause-ok
returns-clause-ok c =
    let names = c.self.inside.names in
    let tables = c.self.inside.tables.items in
    let root = c.self.invariant in
    let at = c.in-Some.at in
    let place = IsPlace-position names c.args.path.now.name at (ap (λ n. position (λ known. same_bytes known n) names) (sym c.name.ensures) ∙ sym c.place_in.ensures ∙ c.in-Some.is) in
    let within : at < length tables = let paired = root.paired in let here = place.within in omega arith in
    let t = c.index_mut.result.now in
    edited-root names tables c.args.self.now c.args.path.now (edit_of c.args.change) at t c.edit_table.new.table c.self.view_is root.paired place within c.index_mut.ensures.value
    (c.in_ok-edit_table.ensures.ok ∙ ap (λ ss. edited ss (edit_of c.args.change) t) c.steps.ensures)

pub returns-clause-rests : goal.returns-clause-rests
returns-clause-rests c =
    let names = c.self.inside.names in
    let tables = c.self.inside.tables.items in
    let root = c.self.invariant in
    let at = c.in-Some.at in
    let place = IsPlace-position names c.args.path.now.name at (ap (λ n. position (λ known. same_bytes known n) names) (sym c.name.ensures) ∙ sym c.place_in.ensures ∙ c.in-Some.is) in
    let within : at < length tables = let paired = root.paired in let here = place.within in omega arith in
    let t = c.index_mut.result.now in
    let new = c.edit_table.new.table in
    rests-set names tables c.args.self.now at t new c.self.view_is root.paired within c.index_mut.ensures.value c.in_ok-edit_table.ensures.rests

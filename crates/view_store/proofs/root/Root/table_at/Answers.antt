use Rattle.std.proofs.Common.{◌<◌, length, position, Some, ap, sym, ◌∙◌, arith}
use Rattle.mk_value.specs.Names.{same_bytes}
use Rattle.view_store.specs.Edits.{table_at}
use Rattle.view_store.specs.Refusals.{at_view, look_due_in}
use Rattle.view_store.proofs.Editing.{IfOk-then}
use Rattle.view_store.proofs.Named.{IsPlace-position, IsAbsent-position}
use Rattle.view_store.proofs.Roots.{found_table, absent_table, look_due-found, view_at-found}
use Rattle.view_store.proofs.root.Root.table_at.Goals as goal

pub returns-in_default-clause-due : goal.returns-in_default-clause-due
returns-in_default-clause-due c =
    let names = c.self.inside.names in
    let absent = IsAbsent-position names c.args.path.now.name (ap (λ n. position (λ known. same_bytes known n) names) (sym c.name.ensures) ∙ sym c.place_in.ensures ∙ c.in_default.is) in
    sym (ap (λ o. at_view o (λ t. look_due_in t c.args.path.now.steps)) (absent_table names c.self.inside.tables.items c.args.self.now c.args.path.now.name c.self.view_is c.self.invariant.paired absent))

pub returns-clause-due : goal.returns-clause-due
returns-clause-due c =
    let names = c.self.inside.names in
    let tables = c.self.inside.tables.items in
    let root = c.self.invariant in
    let at = c.in-Some.at in
    let place = IsPlace-position names c.args.path.now.name at (ap (λ n. position (λ known. same_bytes known n) names) (sym c.name.ensures) ∙ sym c.place_in.ensures ∙ c.in-Some.is) in
    let within : at < length tables = let paired = root.paired in let here = place.within in omega arith in
    let t = c.index.result.now in
    let found = found_table names tables c.args.self.now c.args.path.now.name at t c.self.view_is root.paired place within c.index.ensures in
    c.look.ensures.due ∙ ap (λ ss. look_due_in t ss) c.steps.ensures ∙ sym (look_due-found c.args.self.now c.args.path.now t found)

pub returns-clause-ok : goal.returns-clause-ok
returns-clause-ok c =
    let names = c.self.inside.names in
    let tables = c.self.inside.tables.items in
    let root = c.self.invariant in
    let at = c.in-Some.at in
    let place = IsPlace-position names c.args.path.now.name at (ap (λ n. position (λ known. same_bytes known n) names) (sym c.name.ensures) ∙ sym c.place_in.ensures ∙ c.in-Some.is) in
    let within : at < length tables = let paired = root.paired in let here = place.within in omega arith in
    let t = c.index.result.now in
    let found = found_table names tables c.args.self.now c.args.path.now.name at t c.self.view_is root.paired place within c.index.ensures in
    IfOk-then c.look.result c.look.ensures.ok
    (λ table e. view_at-found c.args.self.now c.args.path.now t found ∙ ap Some (ap (λ ss. table_at ss t) (sym c.steps.ensures) ∙ sym e))

use Rattle.std.proofs.Common.{◌<◌, length, position, ap, sym, ◌∙◌, arith}
use Rattle.mk_value.specs.Names.{same_bytes}
use Rattle.view_store.specs.Refusals.{schema_at, schema_in}
use Rattle.view_store.proofs.Named.{IsPlace-position, IsAbsent-position}
use Rattle.view_store.proofs.Roots.{found_table, absent_table}
use Rattle.view_store.proofs.Walking.{same_answer}
use Rattle.view_store.proofs.root.Root.schema.Goals as goal

pub returns-in_default : goal.returns-in_default
returns-in_default c =
    let names = c.self.inside.names in
    let absent = IsAbsent-position names c.args.path.now.name (ap (λ n. position (λ known. same_bytes known n) names) (sym c.name.ensures) ∙ sym c.place_in.ensures ∙ c.in_default.is) in
    ap (λ o. schema_in o c.args.path.now.steps) (absent_table names c.self.inside.tables.items c.args.self.now c.args.path.now.name c.self.view_is c.self.invariant.paired absent)

pub returns : goal.returns
returns c =
    let names = c.self.inside.names in
    let tables = c.self.inside.tables.items in
    let root = c.self.invariant in
    let at = c.in-Some.at in
    let place = IsPlace-position names c.args.path.now.name at (ap (λ n. position (λ known. same_bytes known n) names) (sym c.name.ensures) ∙ sym c.place_in.ensures ∙ c.in-Some.is) in
    let within : at < length tables = let paired = root.paired in let here = place.within in omega arith in
    let t = c.index.result.now in
    let found = found_table names tables c.args.self.now c.args.path.now.name at t c.self.view_is root.paired place within c.index.ensures in
    same_answer c.find_schema.result (λ s. s.now) _ _
    (ap (λ o. schema_in o c.args.path.now.steps) found ∙ ap (λ ss. schema_at ss t.schema) (sym c.steps.ensures) ∙ ap (λ s. schema_at c.steps.result.now s) (sym c.schema.ensures.value)) c.find_schema.ensures

use Rattle.std.proofs.Common.{◌≡◌, ◌<◌, length, get_or, Some, None, ap, sym, subst, ◌∙◌, arith, refl}
use Rattle.std.specs.Prelude.{remove}
use Rattle.std.proofs.lemmas.List.{get_or_default}
use Rattle.view_store.specs.Rests.{ViewsRestOn}
use Rattle.view_store.specs.Views.{IsRoot, named}
use Rattle.view_store.proofs.Named.{IsPlace-position, IsAbsent-position, no_view}
use Rattle.view_store.proofs.Resting.{views_rest-self}
use Rattle.view_store.proofs.Roots.{root-remove, rests-remove, dropped-root, found_table, absent_table}
use Rattle.view_store.proofs.root.Root.drop_view.Goals as goal

pub returns-in_default-clause-no_view : goal.returns-in_default-clause-no_view
returns-in_default-clause-no_view c =
    let names = c.self.inside.names in
    let tables = c.self.inside.tables.items in
    let root = c.self.invariant in
    let absent = IsAbsent-position names c.args.name.now (sym c.place_in.ensures ∙ c.in_default.is) in
    (λ _. absent_table names tables c.args.self.now c.args.name.now c.self.view_is root.paired absent, λ _. refl)

pub returns-in_default-clause-rests : goal.returns-in_default-clause-rests
returns-in_default-clause-rests c = views_rest-self c.args.self.now

pub invariant_of-self : goal.invariant_of-self
invariant_of-self c =
    let names = c.self.inside.names in
    let tables = c.self.inside.tables.items in
    let root = c.self.invariant in
    let at = c.in-Some.at in
    let place = IsPlace-position names c.args.name.now at (sym c.place_in.ensures ∙ c.in-Some.is) in
    let within : at < length tables = let paired = root.paired in let here = place.within in omega arith in
    subst (λ ns. IsRoot ns c.remove-table.new.self.items) (sym c.remove-name.ensures.rest)
    (subst (λ ts. IsRoot (remove names at) ts) (sym c.remove-table.ensures.items) (root-remove names tables at root place.within))

pub returns-clause-no_view : goal.returns-clause-no_view
returns-clause-no_view c =
    let names = c.self.inside.names in
    let tables = c.self.inside.tables.items in
    let root = c.self.invariant in
    let at = c.in-Some.at in
    let place = IsPlace-position names c.args.name.now at (sym c.place_in.ensures ∙ c.in-Some.is) in
    let within : at < length tables = let paired = root.paired in let here = place.within in omega arith in
    let t = get_or tables at no_view.table in
    let found = found_table names tables c.args.self.now c.args.name.now at t c.self.view_is root.paired place within (get_or_default tables at no_view.table t within) in
    (λ e. absurd (cc), λ e. absurd (let f : Some t ≡ None = sym found ∙ e in cc))

pub returns-clause-ok : goal.returns-clause-ok
returns-clause-ok c =
    let names = c.self.inside.names in
    let tables = c.self.inside.tables.items in
    let root = c.self.invariant in
    let at = c.in-Some.at in
    let place = IsPlace-position names c.args.name.now at (sym c.place_in.ensures ∙ c.in-Some.is) in
    let within : at < length tables = let paired = root.paired in let here = place.within in omega arith in
    ap (λ ns. named ns c.remove-table.new.self.items) c.remove-name.ensures.rest ∙ ap (λ ts. named (remove names at) ts) c.remove-table.ensures.items
    ∙ dropped-root names tables c.args.self.now c.args.name.now at c.self.view_is root.paired place

pub returns-clause-rests : goal.returns-clause-rests
returns-clause-rests c =
    let names = c.self.inside.names in
    let tables = c.self.inside.tables.items in
    subst (λ ns. ViewsRestOn (named ns c.remove-table.new.self.items) c.args.self.now) (sym c.remove-name.ensures.rest)
    (subst (λ ts. ViewsRestOn (named (remove names c.in-Some.at) ts) c.args.self.now) (sym c.remove-table.ensures.items)
    (rests-remove names tables c.args.self.now c.in-Some.at c.self.view_is c.self.invariant.paired))

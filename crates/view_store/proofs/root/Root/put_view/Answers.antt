use Rattle.std.proofs.Common.{◌≡◌, ◌<◌, ◌≤◌, [], length, set, ap, sym, subst, ◌∙◌, arith}
use Rattle.mk_value.specs.Limits.{max_structure}
use Rattle.struct_text.specs.Lengths.{structure_length}
use Rattle.tables.specs.Rests.{homed_columns, RestsOn}
use Rattle.tables.specs.Shapes.{HasHomes}
use Rattle.tables.specs.Tables.{StoredTable, IsTable}
use Rattle.view_store.specs.Views.{IsRoot, IsView, with_view}
use Rattle.view_store.proofs.Named.{IsPlace-position, IsAbsent-position}
use Rattle.view_store.proofs.Resting.{may_replace, may_add}
use Rattle.view_store.proofs.Roots.{root-set, root-push, root-pushed, rests-set, rests-push, rests-pushed, views-pushed, replaced-root, added-root, found_table, absent_table, name_at, room_for}
use Rattle.view_store.proofs.root.Root.put_view.Goals as goal

pub invariant_of-self : goal.invariant_of-self
invariant_of-self c =
    let names = c.self.inside.names in
    let tables = c.self.inside.tables.items in
    let root = c.self.invariant in
    let at = c.in-Some.at in
    let place = IsPlace-position names c.args.name.now at (sym c.place_in.ensures ∙ c.in-Some.is) in
    let within : at < length tables = let paired = root.paired in let here = place.within in omega arith in
    subst (λ t. IsRoot names (set tables at t)) (sym c.in_ok-table.ensures)
    (root-set names tables at c.args.table root within c.len-rows.ensures.whole c.len-rows.ensures.homes
    (subst (λ n. structure_length n c.args.table.schema ≤ max_structure) (sym (name_at names tables c.args.name.now at root.paired place)) c.requires.short))

pub invariant_of-self-in-None : goal.invariant_of-self-in-None
invariant_of-self-in-None c =
    let names = c.self.inside.names in
    let tables = c.self.inside.tables.items in
    let root = c.self.invariant in
    let t = c.in_ok-table.table in
    let absent = IsAbsent-position names c.args.name.now (sym c.place_in.ensures ∙ c.in-None.is) in
    let gone = absent_table names tables c.args.self.now c.args.name.now c.self.view_is root.paired absent in
    let long = ap length c.self.view_is in
    let room = room_for c.args.self.now c.args.name.now gone c.requires.room in
    let view : IsView (record { name = c.args.name.now; table = t }) = record {
      name = c.as_bytes-name.ensures.name;
      table = subst IsTable (sym c.in_ok-table.ensures) c.len-rows.ensures.whole;
      short = subst (λ (u : StoredTable). structure_length c.args.name.now u.schema ≤ max_structure) (sym c.in_ok-table.ensures) c.requires.short;
    } in
    let homes : HasHomes t = subst HasHomes (sym c.in_ok-table.ensures) c.len-rows.ensures.homes in
    root-pushed c.push_view.result names c.push_view.new.names tables c.push_view.new.tables.items c.args.name.now t c.push_view.ensures.names c.push_view.ensures.tables c.push_view.ensures.err_names c.push_view.ensures.err_tables
    (root-push names tables c.args.name.now t root absent (omega arith) view homes) root

pub returns-in-Some-clause-ok : goal.returns-in-Some-clause-ok
returns-in-Some-clause-ok c =
    let names = c.self.inside.names in
    let tables = c.self.inside.tables.items in
    let root = c.self.invariant in
    let at = c.in-Some.at in
    let place = IsPlace-position names c.args.name.now at (sym c.place_in.ensures ∙ c.in-Some.is) in
    let within : at < length tables = let paired = root.paired in let here = place.within in omega arith in
    replaced-root names tables c.args.self.now c.args.name.now at c.in_ok-table.table c.self.view_is root.paired place within ∙ ap (λ t. with_view c.args.self.now c.args.name.now t) c.in_ok-table.ensures

pub returns-in-Some-clause-rests : goal.returns-in-Some-clause-rests
returns-in-Some-clause-rests c = λ may.
    let names = c.self.inside.names in
    let tables = c.self.inside.tables.items in
    let root = c.self.invariant in
    let at = c.in-Some.at in
    let place = IsPlace-position names c.args.name.now at (sym c.place_in.ensures ∙ c.in-Some.is) in
    let within : at < length tables = let paired = root.paired in let here = place.within in omega arith in
    let old = c.index_mut.result.now in
    let found = found_table names tables c.args.self.now c.args.name.now at old c.self.view_is root.paired place within c.index_mut.ensures.value in
    rests-set names tables c.args.self.now at old c.in_ok-table.table c.self.view_is root.paired within c.index_mut.ensures.value
    (subst (λ (t : StoredTable). RestsOn t old) (sym c.in_ok-table.ensures) (may_replace c.args.table old _ found may))

pub returns-in-None-clause-ok : goal.returns-in-None-clause-ok
returns-in-None-clause-ok c =
    let names = c.self.inside.names in
    let tables = c.self.inside.tables.items in
    let root = c.self.invariant in
    let t = c.in_ok-table.table in
    let absent = IsAbsent-position names c.args.name.now (sym c.place_in.ensures ∙ c.in-None.is) in
    views-pushed c.push_view.result names c.push_view.new.names tables c.push_view.new.tables.items c.args.name.now t _ c.push_view.ensures.names c.push_view.ensures.tables
    (added-root names tables c.args.self.now c.args.name.now t c.self.view_is root.paired absent ∙ ap (λ u. with_view c.args.self.now c.args.name.now u) c.in_ok-table.ensures)

pub returns-in-None-clause-rests : goal.returns-in-None-clause-rests
returns-in-None-clause-rests c = λ may.
    let names = c.self.inside.names in
    let tables = c.self.inside.tables.items in
    let root = c.self.invariant in
    let t = c.in_ok-table.table in
    let absent = IsAbsent-position names c.args.name.now (sym c.place_in.ensures ∙ c.in-None.is) in
    let gone = absent_table names tables c.args.self.now c.args.name.now c.self.view_is root.paired absent in
    let homeless : homed_columns t ≡ [] = ap homed_columns c.in_ok-table.ensures ∙ may_add c.args.table _ gone may in
    rests-pushed c.push_view.result names c.push_view.new.names tables c.push_view.new.tables.items c.args.name.now t c.args.self.now c.push_view.ensures.names c.push_view.ensures.tables c.push_view.ensures.err_names c.push_view.ensures.err_tables
    c.self.view_is (rests-push names tables c.args.self.now c.args.name.now t c.self.view_is root.paired homeless)

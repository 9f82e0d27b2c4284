use Rattle.std.proofs.Common.{◌≡◌, ◌∷◌, List, Some, IfOk, ap, refl, sym, subst, ◌∙◌}
use Rattle.watches.specs.Keeping.{followed}
use Rattle.keyed_views.specs.Keeping.{AllBring, AreKeptOver, AreReady, mapped}
use Rattle.keyed_views.specs.Mapped.{is_mapped, mapping_of, row_with, set_edit}
use Rattle.keyed_views.specs.declared.coming.Coming.{Coming}
use Rattle.mk_value.specs.Data.{Datum}
use Rattle.mk_value.specs.Values.{datum_of}
use Rattle.view_store.specs.Edits.{Edit}
use Rattle.view_store.specs.Views.{table_of}
use Rattle.session.specs.Keyed.{StandsBy, edited_in_turn, line_by_key, mapping_as, row_with as row_set, set_by_key, stand_edits}
use Rattle.session.specs.World.{World}
use Rattle.session.proofs.KeyedPut.{MaySetAt, line_made, may_set_at, of_ok, on_both, set_at, set_sets, stands_by}
use Rattle.session.proofs.session.Session.set_value_by_key.Goals as goal
use Rattle.session.proofs.session.Session.set_value_by_key.Goals.{After-size-size, In_ok-coming}

known : (c : After-size-size) → MaySetAt c.self.inside.store.views c.self.inside.mappings c.args.self.now c.args.path.now c.args.keys c.view-table.result.now c.args.row c.args.prop.now (datum_of c.args.value.now)
known c =
    may_set_at c.self.inside.store.views c.self.inside.mappings c.args.self.now c.args.path.now c.args.keys c.view-table.result.now c.args.row c.args.prop.now (datum_of c.args.value.now)
    (ap (λ (w : World). w.store.views) c.self.view_is) (ap (λ (w : World). w.mappings) c.self.view_is) c.self.invariant.1 c.requires.mapped
    (ap (table_of c.self.inside.store.views) (sym c.name.ensures) ∙ ap (λ v. table_of v c.name.result.now) (sym c.views.ensures) ∙ c.view-table.ensures)
    c.requires.due c.size-size.ensures.whole

pub set_edit-requires-clause-mapped : goal.set_edit-requires-clause-mapped
set_edit-requires-clause-mapped c = ap (is_mapped (mapped c.self.inside.mappings)) c.name-2.ensures ∙ (known (goal.at.set_edit-requires-clause-mapped c).After-size-size).view.is

pub set_edit-requires-clause-kept : goal.set_edit-requires-clause-kept
set_edit-requires-clause-kept c = subst (λ n. AreKeptOver n c.view-table.result.now.schema c.view-table.result.now.rows c.self.inside.mappings) (sym c.name-2.ensures) (known (goal.at.set_edit-requires-clause-kept c).After-size-size).view.kept

pub set_edit-requires-clause-named : goal.set_edit-requires-clause-named
set_edit-requires-clause-named c = (known (goal.at.set_edit-requires-clause-named c).After-size-size).whole.named

pub set_edit-requires-clause-row : goal.set_edit-requires-clause-row
set_edit-requires-clause-row c = (known (goal.at.set_edit-requires-clause-row c).After-size-size).whole.whole

pub set_edit-requires-clause-there : goal.set_edit-requires-clause-there
set_edit-requires-clause-there c = (known (goal.at.set_edit-requires-clause-there c).After-size-size).left.within

-- with what comes: the edit that it is, and that the row may stand by its key
known_then : (c : In_ok-coming) → MaySetAt c.self.inside.store.views c.self.inside.mappings c.args.self.now c.args.path.now c.args.keys c.view-table.result.now c.args.row c.args.prop.now (datum_of c.args.value.now)
known_then c =
    may_set_at c.self.inside.store.views c.self.inside.mappings c.args.self.now c.args.path.now c.args.keys c.view-table.result.now c.args.row c.args.prop.now (datum_of c.args.value.now)
    (ap (λ (w : World). w.store.views) c.self.view_is) (ap (λ (w : World). w.mappings) c.self.view_is) c.self.invariant.1 c.requires.mapped
    (ap (table_of c.self.inside.store.views) (sym c.name.ensures) ∙ ap (λ v. table_of v c.name.result.now) (sym c.views.ensures) ∙ c.view-table.ensures)
    c.requires.due c.size-size.ensures.whole

abbrev row : In_ok-coming → List Datum
row c = row_with c.view-table.result.now.schema c.view-table.result.now.rows c.args.row c.args.prop.now (datum_of c.args.value.now)

given : (c : In_ok-coming) (P : Coming → Type 0) → IfOk c.set_edit.result P → P c.in_ok-coming.coming
given c P = of_ok _ P c.set_edit.result c.map_err.result c.in_ok-coming.coming c.map_err.ensures.cases c.map_err.ensures.variant c.in_ok-coming.was

made : (c : In_ok-coming) → c.in_ok-coming.coming.edit ≡ set_edit c.args.keys.by c.args.keys.keys (row c) c.args.row c.view-table.result.now.rows
made c =
    let keys = c.args.keys in
    given c (λ (x : Coming). x.edit ≡ set_edit keys.by keys.keys (row c) c.args.row c.view-table.result.now.rows)
    (c.set_edit.ensures.edit keys.by keys.keys
    (subst (λ n. mapping_of (mapped c.self.inside.mappings) n ≡ Some (record { view = n; by = keys.by; keys = keys.keys })) (sym c.name-2.ensures) (known_then c).view.mapping))

stands : (c : In_ok-coming) → StandsBy (row c) c.args.path.now c.in_ok-coming.coming (Edit.set c.args.row c.args.prop.now (datum_of c.args.value.now)) c.set_edit.new.self c.self.inside.store.views
stands c =
    let t = c.view-table.result.now in
    let all = c.set_edit.new.self in
    let name = c.name-2.result.now in
    let k = known_then c in
    stands_by c.self.inside.store.views c.self.inside.mappings c.args.self.now c.args.path.now c.args.keys t k.view c.args.row c.args.prop.now (datum_of c.args.value.now) c.in_ok-coming.coming all (made c) k.whole.whole k.left c.size-size.ensures.whole.few k.free
    (subst (λ n. AllBring n t.rows (row c) c.in_ok-coming.coming all) c.name-2.ensures (given c (λ (x : Coming). AllBring name t.rows (row c) x all) c.set_edit.ensures.brings))
    (subst (λ n. AreReady n c.in_ok-coming.coming all) c.name-2.ensures (given c (λ (x : Coming). AreReady name x all) c.set_edit.ensures.ready))

pub set_in-requires-clause-set : goal.set_in-requires-clause-set
set_in-requires-clause-set c = let k = (goal.at.set_in-requires-clause-set c).In_ok-coming in set_sets c.args.keys.by c.args.keys.keys (row k) c.view-table.result.now.rows c.args.row c.args.prop.now (datum_of c.args.value.now) k.in_ok-coming.coming.edit (made k)

pub set_in-requires-clause-here : goal.set_in-requires-clause-here
set_in-requires-clause-here c = (known_then (goal.at.set_in-requires-clause-here c).In_ok-coming).view.stands.here

pub set_in-requires-clause-stands : goal.set_in-requires-clause-stands
set_in-requires-clause-stands c = let k = (goal.at.set_in-requires-clause-stands c).In_ok-coming in (row k, stands k)

pub set_in-requires-clause-mapped : goal.set_in-requires-clause-mapped
set_in-requires-clause-mapped c = ap (λ ms. is_mapped ms c.args.path.now.name) c.set_edit.ensures.same ∙ (known_then (goal.at.set_in-requires-clause-mapped c).In_ok-coming).view.is

pub returns-clause-ok : goal.returns-clause-ok
returns-clause-ok c =
    let k = (goal.at.returns-clause-ok c).In_ok-coming in
    let views = c.self.inside.store.views in
    let all = c.self.inside.mappings in
    let w = c.args.self.now in
    let route = c.args.path.now in
    let keys = c.args.keys in
    let d = datum_of c.args.value.now in
    let edit = Edit.set c.args.row c.args.prop.now d in
    let coming = c.in_ok-coming.coming in
    let both = set_at views all w route keys c.view-table.result.now (known_then k).view c.args.row c.args.prop.now d (row k) coming.edit refl (made k) in
    let inside : World = record { store = c.self.inside.store; snapshots = c.self.inside.snapshots; cursors = c.self.inside.cursors; watches = followed c.self.inside.watches; computed = c.self.inside.computed; mappings = mapped all } in
    let new : World = record inside { store = c.set_in.new.store; watches = followed c.set_in.new.watches; mappings = mapped c.set_in.new.mappings } in
    let e = set_by_key (mapping_as route keys) w.store.views route c.args.row (row_set w.store.views route c.args.row c.args.prop.now d) in
    on_both c.set_in.result (c.set_in.ensures.views (row k) (stands k)) c.set_in.ensures.followed (λ stored watched.
    subst (λ r. new ≡ line_by_key w route e (edit ∷ stand_edits r e)) both.0
    (subst (λ x. new ≡ line_by_key w route x (edit ∷ stand_edits (row k) x)) both.1
    (line_made inside w route coming.edit (edit ∷ stand_edits (row k) coming.edit) (edited_in_turn views route (edit ∷ stand_edits (row k) coming.edit)) c.set_in.new.store (followed c.set_in.new.watches) (mapped c.set_in.new.mappings) c.self.view_is
    refl stored watched (c.set_in.ensures.mapped ∙ c.set_edit.ensures.same))))

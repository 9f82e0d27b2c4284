use Rattle.std.proofs.Common.{◌≡◌, ◌≤◌, leb, length, Some, IfOk, ap, refl, sym, subst, ◌∙◌, rules}
use Rattle.cmd_text.specs.declared.refusal.Refusal.TheVariants.{Limit}
use Rattle.keyed_views.specs.Keyed.{IsInPlace, edits_of, home_of}
use Rattle.watches.specs.Keeping.{followed}
use Rattle.keyed_views.specs.Keeping.{AllBring, AreKeptOver, AreReady, mapped}
use Rattle.keyed_views.specs.Mapped.{is_mapped, mapping_of, put_edit}
use Rattle.keyed_views.specs.declared.coming.Coming.{Coming}
use Rattle.mk_value.specs.Limits.{max_rows}
use Rattle.row_edits.specs.Edits.{size_by}
use Rattle.view_store.specs.Views.{table_of}
use Rattle.session.specs.Keyed.{IsPut, edited_in_turn, line_by_key, mapping_as, put_by_key, put_edits}
use Rattle.session.specs.Refusals.{AnswersDue, unless}
use Rattle.session.specs.Values.{size_named}
use Rattle.session.specs.World.{World}
use Rattle.session.proofs.KeyedLines.{is_put}
use Rattle.session.proofs.KeyedPut.{IsAt, is_at, line_made, of_ok, put_all, put_at, put_comes, put_places, size_at}
use Rattle.session.proofs.session.Session.put_by_key.Goals as goal
use Rattle.session.proofs.session.Session.put_by_key.Goals.{After-view-table, In_ok-coming}

at : (c : After-view-table) → IsAt c.self.inside.store.views c.self.inside.mappings c.args.self.now c.args.path.now c.args.keys c.view-table.result.now
at c =
    is_at c.self.inside.store.views c.self.inside.mappings c.args.self.now c.args.path.now c.args.keys c.view-table.result.now (ap (λ (w : World). w.store.views) c.self.view_is) (ap (λ (w : World). w.mappings) c.self.view_is)
    c.self.invariant.1 c.requires.mapped (ap (table_of c.self.inside.store.views) (sym c.name.ensures) ∙ ap (λ v. table_of v c.name.result.now) (sym c.views.ensures) ∙ c.view-table.ensures)

pub put_edit-requires-clause-mapped : goal.put_edit-requires-clause-mapped
put_edit-requires-clause-mapped c = ap (is_mapped (mapped c.self.inside.mappings)) c.name-2.ensures ∙ (at (goal.at.put_edit-requires-clause-mapped c).After-view-table).is

pub put_edit-requires-clause-kept : goal.put_edit-requires-clause-kept
put_edit-requires-clause-kept c =
    let t = c.view-table.result.now in
    subst (λ n. AreKeptOver n t.schema t.rows c.self.inside.mappings) (sym c.name-2.ensures) (at (goal.at.put_edit-requires-clause-kept c).After-view-table).kept

-- with what comes: the edit that it is
at_then : (c : In_ok-coming) → IsAt c.self.inside.store.views c.self.inside.mappings c.args.self.now c.args.path.now c.args.keys c.view-table.result.now
at_then c =
    is_at c.self.inside.store.views c.self.inside.mappings c.args.self.now c.args.path.now c.args.keys c.view-table.result.now (ap (λ (w : World). w.store.views) c.self.view_is) (ap (λ (w : World). w.mappings) c.self.view_is)
    c.self.invariant.1 c.requires.mapped (ap (table_of c.self.inside.store.views) (sym c.name.ensures) ∙ ap (λ v. table_of v c.name.result.now) (sym c.views.ensures) ∙ c.view-table.ensures)

given : (c : In_ok-coming) (P : Coming → Type 0) → IfOk c.put_edit.result P → P c.in_ok-coming.coming
given c P = of_ok _ P c.put_edit.result c.map_err.result c.in_ok-coming.coming c.map_err.ensures.cases c.map_err.ensures.variant c.in_ok-coming.was

made : (c : In_ok-coming) → c.in_ok-coming.coming.edit ≡ put_edit c.args.keys.by c.args.keys.keys c.args.row.now c.args.place c.view-table.result.now.rows
made c =
    let keys = c.args.keys in
    given c (λ (x : Coming). x.edit ≡ put_edit keys.by keys.keys c.args.row.now c.args.place c.view-table.result.now.rows)
    (c.put_edit.ensures.edit keys.by keys.keys
    (subst (λ n. mapping_of (mapped c.self.inside.mappings) n ≡ Some (record { view = n; by = keys.by; keys = keys.keys })) (sym c.name-2.ensures) (at_then c).mapping))

puts : (c : In_ok-coming) → c.in_ok-coming.coming.edit ≡ put_by_key (mapping_as c.args.path.now c.args.keys) c.args.self.now.store.views c.args.path.now c.args.place c.args.row.now
puts c = put_at c.self.inside.store.views c.self.inside.mappings c.args.self.now c.args.path.now c.args.keys c.view-table.result.now (at_then c) c.args.place c.args.row.now c.in_ok-coming.coming.edit (made c)

is_one : (c : In_ok-coming) → IsPut c.in_ok-coming.coming.edit
is_one c = subst IsPut (sym (made c)) (is_put c.args.keys.by c.args.keys.keys c.args.row.now c.args.place c.view-table.result.now.rows)

-- how many rows there are then
sized : (c : In_ok-coming) (size : _) → size ≡ length c.view-table.result.now.rows
    → size_by (edits_of c.in_ok-coming.coming.edit) size
    ≡ size_by (edits_of (put_by_key (mapping_as c.args.path.now c.args.keys) c.args.self.now.store.views c.args.path.now c.args.place c.args.row.now)) (size_named c.args.self.now.store.views c.args.path.now)
sized c size is =
    ap (size_by (edits_of c.in_ok-coming.coming.edit)) (is ∙ sym (size_at c.self.inside.store.views c.self.inside.mappings c.args.self.now c.args.path.now c.args.keys c.view-table.result.now (at_then c)))
    ∙ ap (λ e. size_by (edits_of e) (size_named c.args.self.now.store.views c.args.path.now)) (puts c)

pub check_size-requires-clause-put : goal.check_size-requires-clause-put
check_size-requires-clause-put c = is_one (goal.at.check_size-requires-clause-put c).In_ok-coming

pub check_size-requires-clause-in_place : goal.check_size-requires-clause-in_place
check_size-requires-clause-in_place c =
    let k = (goal.at.check_size-requires-clause-in_place c).In_ok-coming in
    let edit = c.in_ok-coming.coming.edit in
    λ few.
    subst (IsInPlace edit) (sym c.size.ensures.value)
    (put_places c.self.inside.store.views c.self.inside.mappings c.args.self.now c.args.path.now c.args.keys c.view-table.result.now (at_then k) c.args.place c.args.row.now edit (made k) c.requires.place (subst (λ n. size_by (edits_of edit) n ≤ max_rows) c.size.ensures.value few))

pub returns-in_err-size-clause-due : goal.returns-in_err-size-clause-due
returns-in_err-size-clause-due c =
    subst (λ n. AnswersDue (unless (leb n max_rows) Limit) c.from_residual-in_err-size.result) (sized (goal.at.returns-in_err-size-clause-due c).In_ok-coming c.size.result c.size.ensures.value) (search rules)

pub put_in-requires-clause-allowed : goal.put_in-requires-clause-allowed
put_in-requires-clause-allowed c =
    let k = (goal.at.put_in-requires-clause-allowed c).In_ok-coming in
    let edit = c.in_ok-coming.coming.edit in
    let few = subst (λ n. n ≤ max_rows) (c.in_ok-size.ensures.size ∙ ap (size_by (edits_of edit)) c.size.ensures.value) c.in_ok-size.ensures.few in
    (put_all c.self.inside.store.views c.self.inside.mappings c.args.self.now c.args.path.now c.args.keys c.view-table.result.now (at_then k) c.args.place c.args.row.now edit (made k) c.requires.row c.requires.place c.size.ensures.whole.few few).allowed

pub put_in-requires-clause-put : goal.put_in-requires-clause-put
put_in-requires-clause-put c = is_one (goal.at.put_in-requires-clause-put c).In_ok-coming

pub put_in-requires-clause-here : goal.put_in-requires-clause-here
put_in-requires-clause-here c = (at_then (goal.at.put_in-requires-clause-here c).In_ok-coming).stands.here

pub put_in-requires-clause-mapped : goal.put_in-requires-clause-mapped
put_in-requires-clause-mapped c = ap (λ ms. is_mapped ms c.args.path.now.name) c.put_edit.ensures.same ∙ (at_then (goal.at.put_in-requires-clause-mapped c).In_ok-coming).is

pub put_in-requires-clause-comes : goal.put_in-requires-clause-comes
put_in-requires-clause-comes c =
    let k = (goal.at.put_in-requires-clause-comes c).In_ok-coming in
    let t = c.view-table.result.now in
    let row = c.args.row.now in
    let coming = c.in_ok-coming.coming in
    let all = c.put_edit.new.self in
    let name = c.name-2.result.now in
    let few = subst (λ n. n ≤ max_rows) (c.in_ok-size.ensures.size ∙ ap (size_by (edits_of coming.edit)) c.size.ensures.value) c.in_ok-size.ensures.few in
    put_comes c.self.inside.store.views c.self.inside.mappings c.args.self.now c.args.path.now c.args.keys c.view-table.result.now (at_then k) c.args.place row coming all (edited_in_turn c.self.inside.store.views c.args.path.now (put_edits row coming.edit)) (made k) c.requires.row c.requires.place c.size.ensures.whole.few few refl
    (subst (λ n. AllBring n t.rows row coming all) c.name-2.ensures (given k (λ (x : Coming). AllBring name t.rows row x all) c.put_edit.ensures.brings))
    (subst (λ n. AreReady n coming all) c.name-2.ensures (given k (λ (x : Coming). size_by (edits_of x.edit) (length t.rows) ≤ max_rows → AreReady name x all) c.put_edit.ensures.ready few))

pub returns-clause-due : goal.returns-clause-due
returns-clause-due c =
    sym (c.in_ok-size.ensures.due ∙ ap (λ n. unless (leb n max_rows) Limit) (sized (goal.at.returns-clause-due c).In_ok-coming c.size.result c.size.ensures.value))

pub returns-clause-place : goal.returns-clause-place
returns-clause-place c = c.home.ensures ∙ ap home_of (puts (goal.at.returns-clause-place c).In_ok-coming)

pub returns-clause-size : goal.returns-clause-size
returns-clause-size c = c.in_ok-size.ensures.size ∙ sized (goal.at.returns-clause-size c).In_ok-coming c.size.result c.size.ensures.value

pub returns-clause-ok : goal.returns-clause-ok
returns-clause-ok c =
    let k = (goal.at.returns-clause-ok c).In_ok-coming in
    let all = c.self.inside.mappings in
    let w = c.args.self.now in
    let route = c.args.path.now in
    let row = c.args.row.now in
    let edit = c.in_ok-coming.coming.edit in
    let inside : World = record { store = c.self.inside.store; snapshots = c.self.inside.snapshots; cursors = c.self.inside.cursors; watches = followed c.self.inside.watches; computed = c.self.inside.computed; mappings = mapped all } in
    let new : World = record inside { store = c.put_in.new.store; watches = followed c.put_in.new.watches; mappings = mapped c.put_in.new.mappings } in
    subst (λ e. new ≡ line_by_key w route e (put_edits row e)) (puts k)
    (line_made inside w route edit (put_edits row edit) (edited_in_turn c.self.inside.store.views route (put_edits row edit)) c.put_in.new.store (followed c.put_in.new.watches) (mapped c.put_in.new.mappings) c.self.view_is refl
    c.in_ok-put_in.ensures.views c.in_ok-put_in.ensures.followed (c.in_ok-put_in.ensures.mapped ∙ c.put_edit.ensures.same))

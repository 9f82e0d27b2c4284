use Rattle.std.proofs.Common.{◌≡◌, sym, subst, ◌∙◌}
use Rattle.std.proofs.lemmas.Option.{same_Some}
use Rattle.std.proofs.lemmas.Result.{IfOk-weaker}
use Rattle.std.specs.Prelude.{IfOk}
use Rattle.keyed_views.specs.declared.coming.Coming.{Coming}
use Rattle.keyed_views.specs.declared.kept.Kept.{Kept}
use Rattle.keyed_views.specs.Keeping.{AllBring, AreReady, Brings, IsKeptOver, IsReady, by_of}
use Rattle.mk_value.specs.Values.{datum_of}
use Rattle.keyed_views.specs.Mapped.{MappedView, row_with, set_edit}
use Rattle.keyed_views.proofs.Holding.{kept_stays}
use Rattle.keyed_views.proofs.Whole.{is_mapped_is, mapping_one, named_one, named_set, same_mapped}
use Rattle.keyed_views.proofs.mappings.Mappings.set_edit.Goals as goal

pub at-at-requires : goal.at-at-requires
at-at-requires c = sym (is_mapped_is c.args.self.now c.deref.result.now c.args.view.now (c.deref.ensures.value ∙ c.self.view_is)) ∙ c.requires.mapped

pub set-requires-clause-kept : goal.set-requires-clause-kept
set-requires-clause-kept c = named_one c.args.self.now c.self.inside.list.items c.deref.result.now c.args.view.now c.at-at.result c.index_mut.result.now c.self.invariant c.self.view_is c.deref.ensures.value c.at-at.ensures c.index_mut.ensures.value (IsKeptOver c.args.table.now.schema c.args.table.now.rows) c.requires.kept

pub returns-clause-edit : goal.returns-clause-edit
returns-clause-edit c = λ by keys is.
    let m : MappedView = record { view = c.args.view.now; by = by_of c.index_mut.result.now.mapping; keys = c.index_mut.result.now.keys } in
    let e = same_Some m (record { view = c.args.view.now; by = by; keys = keys }) (sym (mapping_one c.args.self.now c.self.inside.list.items c.deref.result.now c.args.view.now c.at-at.result c.index_mut.result.now c.self.invariant c.self.view_is c.deref.ensures.value c.at-at.ensures c.index_mut.ensures.value) ∙ is) in
    subst (λ (m : MappedView). IfOk c.set.result (λ (x : Coming). x.edit ≡ set_edit m.by m.keys (row_with c.args.table.now.schema c.args.table.now.rows c.args.place c.args.prop.now (datum_of c.args.value.now)) c.args.place c.args.table.now.rows)) e c.set.ensures.edit

pub returns-clause-ready : goal.returns-clause-ready
returns-clause-ready c =
    IfOk-weaker c.set.result (λ (x : Coming). IsReady x c.set.new.self.mapping) (λ (x : Coming). AreReady c.args.view.now x _)
    (λ x ready. named_set c.args.self.now c.self.inside.list.items c.deref.result.now c.args.view.now c.at-at.result c.index_mut.result.now c.self.invariant c.self.view_is c.deref.ensures.value c.at-at.ensures c.index_mut.ensures.value c.set.new.self c.set.ensures.view c.set.ensures.keys c.set.ensures.stays.by (λ (k : Kept). IsReady x k.mapping) ready)
    c.set.ensures.ready

pub returns-clause-brings : goal.returns-clause-brings
returns-clause-brings c =
    IfOk-weaker c.set.result (λ (x : Coming). Brings c.args.table.now.rows (row_with c.args.table.now.schema c.args.table.now.rows c.args.place c.args.prop.now (datum_of c.args.value.now)) x c.set.new.self) (λ (x : Coming). AllBring c.args.view.now c.args.table.now.rows (row_with c.args.table.now.schema c.args.table.now.rows c.args.place c.args.prop.now (datum_of c.args.value.now)) x _)
    (λ x brings. named_set c.args.self.now c.self.inside.list.items c.deref.result.now c.args.view.now c.at-at.result c.index_mut.result.now c.self.invariant c.self.view_is c.deref.ensures.value c.at-at.ensures c.index_mut.ensures.value c.set.new.self c.set.ensures.view c.set.ensures.keys c.set.ensures.stays.by (Brings c.args.table.now.rows (row_with c.args.table.now.schema c.args.table.now.rows c.args.place c.args.prop.now (datum_of c.args.value.now)) x) brings)
    c.set.ensures.brings

pub returns-clause-same : goal.returns-clause-same
returns-clause-same c = same_mapped c.args.self.now c.self.inside.list.items c.deref.result.now c.args.view.now c.at-at.result c.index_mut.result.now c.self.invariant c.self.view_is c.deref.ensures.value c.at-at.ensures c.index_mut.ensures.value c.set.new.self c.set.ensures.view c.set.ensures.keys c.set.ensures.stays.by

pub returns-clause-kept : goal.returns-clause-kept
returns-clause-kept c = λ views h. kept_stays c.args.self.now c.self.inside.list.items c.deref.result.now c.args.view.now c.at-at.result c.index_mut.result.now c.self.invariant c.self.view_is c.deref.ensures.value c.at-at.ensures c.index_mut.ensures.value c.set.new.self c.set.ensures.view c.set.ensures.keys c.set.ensures.stays views h

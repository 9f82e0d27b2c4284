use Rattle.std.proofs.Common.{ap, inl, sym, ◌∙◌}
use Rattle.std.proofs.lemmas.Bool.{false≢true}
use Rattle.view_store.specs.Views.{table_of, with_view}
use Rattle.view_store.proofs.Editing.{IfOk-then}
use Rattle.session.specs.Naming.{declare_due, is_view_used}
use Rattle.watches.specs.Keeping.{followed}
use Rattle.keyed_views.specs.Keeping.{mapped}
use Rattle.session.specs.World.{World, with_tables}
use Rattle.session.proofs.Structured.{declare-in_use, structured-other}
use Rattle.session.proofs.session.Session.declare.Goals as goal

pub returns-clause-ok : goal.returns-clause-ok
returns-clause-ok c =
    let root = c.args.self.now.store.views in
    let name = c.args.name.now in
    IfOk-then c.put_view.result c.put_view.ensures.ok
    (λ _ e. e ∙ ap (λ views. with_tables c.args.self.now views) (ap (λ t. with_view root name t) c.in_ok-table.ensures.ok
    ∙ sym (structured-other root name c.args.schema.now c.in-Some.known.now (ap (λ (w : World). table_of w.store.views name) (sym c.self.view_is) ∙ ap (λ v. table_of v name) (sym c.views.ensures) ∙ c.in-Some.ensures) c.as_bytes-name.ensures.name c.schema.ensures.whole c.len-properties.ensures.whole (λ same. false≢true (sym c.if-is_same.false ∙ c.is_same.ensures.1 (c.schema.ensures.value ∙ same))))))

pub returns-then-is_view_used-clause-due : goal.returns-then-is_view_used-clause-due
returns-then-is_view_used-clause-due c =
    let name = c.args.name.now in
    let schema = c.args.schema.now in
    let inside : World = record { store = c.self.inside.store; snapshots = c.self.inside.snapshots; cursors = c.self.inside.cursors; watches = followed c.self.inside.watches; computed = c.self.inside.computed; mappings = mapped c.self.inside.mappings } in
    let found = ap (λ v. table_of v name) (sym c.views.ensures) ∙ c.in-Some.ensures in
    let stands = ap (λ (w : World). is_view_used w name) c.self.view_is ∙ sym c.is_view_used.ensures ∙ c.if-is_view_used.true in
    inl (ap (λ (w : World). declare_due w name schema) (sym c.self.view_is)
    ∙ declare-in_use inside name schema c.in-Some.known.now found c.as_bytes-name.ensures.name c.schema.ensures.whole c.len-properties.ensures.whole
    (λ same. false≢true (sym c.if-is_same.false ∙ c.is_same.ensures.1 (c.schema.ensures.value ∙ same))) stands)

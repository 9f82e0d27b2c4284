use Rattle.std.proofs.Common.{◌≡◌, Some, ap, sym, subst, ◌∙◌}
use Rattle.expr_text.specs.Meanings.{query_of}
use Rattle.expr_text.specs.Queries.{Query}
use Rattle.keyed_views.specs.Keeping.{AreKept as AreMapped}
use Rattle.view_store.specs.Views as views
use Rattle.questions.specs.InOrder.{IsInOrder}
use Rattle.questions.specs.Kept.{Names}
use Rattle.questions.proofs.Ordered.{is_in_order}
use Rattle.questions.proofs.known.Known.in_order.Goals as goal

pub returns : goal.returns
returns c =
    let names = c.args.self.now in
    let route = c.in-Path.path in
    let t = c.in_ok-table.table.now in
    let count = c.in_ok-keys.keys in
    let views_are : names.views ≡ c.self.inside.views.now = sym (ap (λ (n : Names). n.views) c.self.view_is) in
    let found : views.table_of names.views route.name ≡ Some t =
    ap (λ vs. views.table_of vs route.name) views_are ∙ sym (ap (views.table_of c.self.inside.views.now) c.name.ensures) ∙ c.in_ok-table.ensures in
    let kept : AreMapped names.views c.self.inside.mappings.now = subst (λ vs. AreMapped vs c.self.inside.mappings.now) (sym views_are) c.self.invariant.1.0 in
    let order = sym c.order_at.ensures ∙ c.in_ok-keys.was in
    subst (λ (q : Query). IsInOrder names q t count) (sym (ap query_of c.in-Path.is))
    (is_in_order names route c.self.inside.mappings.now t count (sym (ap (λ (n : Names). n.mappings) c.self.view_is)) kept found order)

use Rattle.std.proofs.Common.{◌≡◌, subst}
use Rattle.view_store.specs.Rests.{ViewsRestOn}
use Rattle.session.proofs.KeyedPut.{of_ok}
use Rattle.session.proofs.keyed.views_with.Goals as goal

pub returns-clause-rests : goal.returns-clause-rests
returns-clause-rests c =
    let views = c.args.views.now in
    let same : c.in_ok-views.views ≡ views = of_ok _ (λ v. v ≡ views) c.same.result c.map_err.result c.in_ok-views.views c.map_err.ensures.cases c.map_err.ensures.variant c.in_ok-views.was c.same.ensures in
    subst (ViewsRestOn c.edit_views.new.views) same c.edit_views.ensures.rests

use Rattle.std.proofs.Common.{sym, subst}
use Rattle.view_store.specs.Rests.{ViewsRestOn, homed_views}
use Rattle.storage.specs.Stored.{Stored}
use Rattle.storage.proofs.Resting.{rest_joins}
use Rattle.storage.proofs.store.Store.put_views.Goals as goal

pub invariant_of-self : goal.invariant_of-self
invariant_of-self c =
    let kept = c.self.invariant in
    let rests = subst (λ (s : Stored). ViewsRestOn c.args.views s.views) (sym c.self.view_is) c.requires.rests in
    record {
      kept = kept.kept;
      views_are = c.names-names.ensures.whole;
      shaped = c.tables-tables.ensures.shaped;
      rests = rest_joins (homed_views c.args.views) _ (homed_views c.self.inside.kept.views) rests kept.rests;
      low = kept.low;
      beside = kept.beside;
      capped = kept.capped;
    }

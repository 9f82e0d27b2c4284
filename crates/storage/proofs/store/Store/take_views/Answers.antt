use Rattle.std.proofs.Common.{List, sym, subst}
use Rattle.std.specs.Prelude.{Option}
use Rattle.view_store.specs.Rests.{homed_views}
use Rattle.view_store.specs.Views.{NamedTable}
use Rattle.storage.specs.Seen.{stored_of}
use Rattle.storage.specs.Stored.{IsStore}
use Rattle.storage.proofs.Resting.{rest_same}
use Rattle.storage.proofs.store.Store.take_views.Goals as goal

pub invariant_of-self : goal.invariant_of-self
invariant_of-self c =
    let s = c.self.inside in
    let kept = c.self.invariant in
    subst (λ (edited : Option (List NamedTable)). IsStore (stored_of s.kept edited s.before s.attempted s.slot s.other s.mode s.cap)) (sym c.take.ensures.after)
    (record {
      kept = kept.kept;
      views_are = kept.kept.views;
      shaped = kept.kept.shaped;
      rests = rest_same (homed_views s.kept.views);
      low = kept.low;
      beside = kept.beside;
      capped = kept.capped;
    })

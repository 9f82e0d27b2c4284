use Rattle.view_store.specs.Rests.{homed_views}
use Rattle.storage.proofs.Resting.{rest_same}
use Rattle.storage.proofs.store.Store.put_opened.Goals as goal

pub invariant_of-self : goal.invariant_of-self
invariant_of-self c = record {
  kept = c.requires.whole;
  views_are = c.requires.whole.views;
  shaped = c.requires.whole.shaped;
  rests = rest_same (homed_views c.args.opened.kept.views);
  low = c.requires.low;
  beside = c.before_of-self-inside.ensures.beside;
  capped = c.self.invariant.capped;
}

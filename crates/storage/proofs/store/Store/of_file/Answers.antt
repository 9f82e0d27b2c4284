use Rattle.std.proofs.Common.{sym, ◌∙◌}
use Rattle.view_store.specs.Rests.{homed_views}
use Rattle.storage.proofs.Resting.{rest_same}
use Rattle.storage.proofs.store.Store.of_file.Goals as goal

pub invariant_of-result : goal.invariant_of-result
invariant_of-result c = record {
  kept = c.requires.whole;
  views_are = c.requires.whole.views;
  shaped = c.requires.whole.shaped;
  rests = rest_same (homed_views c.args.opened.kept.views);
  low = c.requires.low;
  beside = λ number is. sym c.number_of.ensures ∙ is;
  capped = c.requires.capped;
}

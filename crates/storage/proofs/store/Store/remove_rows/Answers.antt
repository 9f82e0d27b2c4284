use Rattle.view_store.specs.Rests.{homed_views}
use Rattle.storage.proofs.Resting.{rest_joins}
use Rattle.storage.proofs.store.Store.remove_rows.Goals as goal

pub give_back-requires : goal.give_back-requires
give_back-requires c = record {
  rests = rest_joins (homed_views c.remove_rows-answer.new.self) (homed_views c.in_ok-views.views) (homed_views c.take_views.new.self.kept.views) c.remove_rows-answer.ensures.rests c.in_ok-views.ensures.rests;
}

use Rattle.std.proofs.Common.{ap, refl, ◌∙◌}
use Rattle.recovery.specs.Keeping.{commit_in}
use Rattle.storage.specs.Stored.{with_views}
use Rattle.storage.proofs.store.Store.revert.Goals as goal

pub returns-clause-ok : goal.returns-clause-ok
returns-clause-ok g c = record {
  older = commit_in c.in_ok-older.older;
  before = c.in_ok-older.ensures.older;
  number_is = refl;
  views = c.give_back.ensures ∙ ap (with_views c.args.self.now) c.in_ok-views.ensures.value;
}

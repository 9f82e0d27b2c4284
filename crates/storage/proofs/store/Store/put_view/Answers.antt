use Rattle.std.proofs.Common.{List, sym, subst}
use Rattle.view_store.specs.Rests.{MayReplace, homed_views}
use Rattle.view_store.specs.Views.{NamedTable, table_of}
use Rattle.storage.proofs.Resting.{rest_joins}
use Rattle.storage.proofs.store.Store.put_view.Goals as goal

pub give_back-requires : goal.give_back-requires
give_back-requires c =
    let may = subst (λ (views : List NamedTable). MayReplace c.args.table (table_of views c.args.name.now)) (sym c.in_ok-views.ensures.views) c.requires.rests in
    record {
      rests = rest_joins (homed_views c.put_view-answer.new.self) (homed_views c.in_ok-views.views) (homed_views c.take_views.new.self.kept.views) (c.put_view-answer.ensures.rests may) c.in_ok-views.ensures.rests;
    }

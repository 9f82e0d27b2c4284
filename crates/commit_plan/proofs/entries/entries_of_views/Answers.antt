use Rattle.std.proofs.Common.{◌∙◌, [], ◌∷◌, map, ap}
use Rattle.std.proofs.lemmas.List.{map-append}
use Rattle.dir_codec.specs.Values.{view_of}
use Rattle.commit_plan.proofs.TableEntries.{view_more}
use Rattle.commit_plan.proofs.entries.entries_of_views.Goals as goal

pub views-preserved : goal.views-preserved
views-preserved c =
    view_more c.args.views.now c.views.at c.as_slice-names.result.now c.tables-tables.result.now c.index-names-at.result c.index-tables-at.result (map view_of c.views.entries) (map view_of c.push.new.self) (view_of c.in_ok-dir_view.field-0)
    (c.as_slice-names.ensures ∙ c.names.ensures.names) c.tables-tables.ensures.tables c.views-test.true c.index-names-at.is c.index-tables-at.is c.views.invariant c.in_ok-dir_view.ensures
    (ap (map view_of) c.in_ok-push.ensures.ok ∙ map-append view_of c.views.entries (c.in_ok-dir_view.field-0 ∷ []))

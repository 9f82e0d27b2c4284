use Rattle.std.proofs.Common.{◌≡◌, List, map, ap, subst, ◌∙◌}
use Rattle.std.specs.Result.{result_map_both}
use Rattle.computing.specs.Computed.{alone}
use Rattle.derived.specs.Layers.{table_of}
use Rattle.eval.specs.Names.{Named, view_at}
use Rattle.eval.specs.Values.{at_path}
use Rattle.mk_value.specs.Paths.{Route}
use Rattle.questions.specs.Answers.{Answers}
use Rattle.questions.specs.Kept.{source_names, sources}
use Rattle.questions.specs.Told.{told}
use Rattle.questions.proofs.Levels.{level_is, sources_are, two_levels}
use Rattle.questions.proofs.scope.Scope.source.Goals as goal

pub returns : goal.returns
unfolding source_names
returns g c =
    let n = c.args.self.now.names in
    let viewers = map g.V.Viewer.meaning c.args.self.now.viewers.now in
    let computed = c.args.self.now.computed.now in
    let base = sources_are n c.sources-sources.result c.sources-sources.ensures.views c.sources-sources.ensures.snapshots c.sources-sources.ensures.watches in
    let filtered = level_is (c.level-filtered.ensures.names ∙ base) (c.level-filtered.ensures.sources ∙ base) (ap (map g.V.Viewer.meaning) c.level-filtered.ensures.viewers) (c.level-filtered.ensures.watches ∙ c.filters.ensures) in
    let all = level_is (c.level-asked.ensures.names ∙ filtered) (c.level-asked.ensures.sources ∙ filtered) (ap (map g.V.Viewer.meaning) c.level-asked.ensures.viewers) (c.level-asked.ensures.watches ∙ c.counts.ensures) in
    let path : c.new-path.result ≡ alone c.args.name.now = λ i. record { name = (c.new-path.ensures.name ∙ c.in_ok-copy.ensures) i; steps = c.new-path.ensures.steps i } in
    subst (λ (route : Route). Answers table_of (result_map_both (λ t. t) told (at_path (view_at (source_names n viewers computed) route))) c.seen.result) path
    (subst (λ (names : List Named). Answers table_of (result_map_both (λ t. t) told (at_path (view_at names c.new-path.result))) c.seen.result)
    (all ∙ two_levels (sources n) (sources n) viewers computed) c.seen.ensures)

use Rattle.std.proofs.Common.{List, map, ap, subst, ◌∙◌}
use Rattle.derived.specs.Layers.{table_of}
use Rattle.eval.specs.Names.{Named}
use Rattle.expr_text.specs.Meanings.{query_of}
use Rattle.questions.specs.Answers.{Answers, answer}
use Rattle.questions.specs.Kept.{asked_names, known, sources}
use Rattle.questions.proofs.Levels.{level_is, sources_are, two_levels}
use Rattle.questions.proofs.scope.Scope.value.Goals as goal

pub returns : goal.returns
unfolding asked_names
returns g c =
    let n = c.args.self.now.names in
    let viewers = map g.V.Viewer.meaning c.args.self.now.viewers.now in
    let computed = c.args.self.now.computed.now in
    let base = sources_are n c.sources-sources.result c.sources-sources.ensures.views c.sources-sources.ensures.snapshots c.sources-sources.ensures.watches in
    let filtered = level_is (c.level-filtered.ensures.names ∙ base) (c.level-filtered.ensures.sources ∙ base) (ap (map g.V.Viewer.meaning) c.level-filtered.ensures.viewers) (c.level-filtered.ensures.watches ∙ c.filters.ensures) in
    let first = level_is c.level-known.ensures.names (c.level-known.ensures.sources ∙ base) (ap (map g.V.Viewer.meaning) c.level-known.ensures.viewers) (c.level-known.ensures.watches ∙ c.filters-2.ensures) in
    let all = level_is (c.level-asked.ensures.names ∙ first) (c.level-asked.ensures.sources ∙ filtered) (ap (map g.V.Viewer.meaning) c.level-asked.ensures.viewers) (c.level-asked.ensures.watches ∙ c.counts.ensures) in
    subst (λ (names : List Named). Answers table_of (answer names viewers (query_of c.args.expr.now)) c.evaluated.result)
    (all ∙ two_levels (known n.views n.snapshots n.watches) (sources n) viewers computed) c.evaluated.ensures

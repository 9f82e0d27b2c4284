use Rattle.std.proofs.Common.{◌≡◌, List, [], map, Ok, ap, sym, subst, ◌∙◌}
use Rattle.std.specs.Prelude.{find}
use Rattle.std.proofs.lemmas.Bool.{false≢true}
use Rattle.computing.specs.Computed.{names_of, with_filters}
use Rattle.derived.specs.Layers.{table_of}
use Rattle.eval.specs.Names.{IsSeen, Named, seen_at}
use Rattle.questions.specs.Kept.{sources}
use Rattle.questions.proofs.Found.{is_this}
use Rattle.questions.proofs.Levels.{Refused, level_is, refused_before, seen_before, seen_behind, sources_are}
use Rattle.questions.proofs.scope.Scope.computed_table.Goals as goal

pub returns-in-Ok : goal.returns-in-Ok
returns-in-Ok g c =
    let n = c.args.self.now.names in
    let viewers = map g.V.Viewer.meaning c.args.self.now.viewers.now in
    let computed = c.args.self.now.computed.now in
    let name = c.args.name.now in
    let base = sources_are n c.sources-sources.result c.sources-sources.ensures.views c.sources-sources.ensures.snapshots c.sources-sources.ensures.watches in
    let t = table_of c.in-Ok.table in
    seen_before (names_of (sources n) viewers computed.filters) (names_of (with_filters (sources n) viewers computed) viewers computed.counts) name [] t
    (subst (λ (names : List Named). seen_at (find (is_this name) names) [] ≡ Ok t) (λ i. names_of (base i) viewers (c.filters.ensures i)) c.in-Ok.ensures)

pub returns-in-Err : goal.returns-in-Err
returns-in-Err g c =
    let n = c.args.self.now.names in
    let viewers = map g.V.Viewer.meaning c.args.self.now.viewers.now in
    let computed = c.args.self.now.computed.now in
    let name = c.args.name.now in
    let base = sources_are n c.sources-sources.result c.sources-sources.ensures.views c.sources-sources.ensures.snapshots c.sources-sources.ensures.watches in
    let filtered = level_is (c.level-filtered.ensures.names ∙ base) (c.level-filtered.ensures.sources ∙ base) (ap (map g.V.Viewer.meaning) c.level-filtered.ensures.viewers) (c.level-filtered.ensures.watches ∙ c.filters-in-Err.ensures) in
    let first = names_of (sources n) viewers computed.filters in
    let second = names_of (with_filters (sources n) viewers computed) viewers computed.counts in
    let seen = subst (λ (names : List Named). Refused (seen_at (find (is_this name) names) []) c.in-Err.error) (λ i. names_of (base i) viewers (c.filters.ensures i)) c.in-Err.ensures in
    subst (λ due. IsSeen due c.computed_table-in-Err.result) (sym (seen_behind first second name c.in-Err.error (c.is_absent.ensures.0 c.if-is_absent.true) seen))
    (subst (λ (names : List Named). IsSeen (seen_at (find (is_this name) names) []) c.computed_table-in-Err.result) (λ i. names_of (filtered i) viewers (c.counts.ensures i)) c.computed_table-in-Err.ensures)

pub returns-in-Err-2 : goal.returns-in-Err-2
returns-in-Err-2 g c =
    let n = c.args.self.now.names in
    let viewers = map g.V.Viewer.meaning c.args.self.now.viewers.now in
    let computed = c.args.self.now.computed.now in
    let name = c.args.name.now in
    let base = sources_are n c.sources-sources.result c.sources-sources.ensures.views c.sources-sources.ensures.snapshots c.sources-sources.ensures.watches in
    refused_before (names_of (sources n) viewers computed.filters) (names_of (with_filters (sources n) viewers computed) viewers computed.counts) name [] c.in-Err.error
    (subst (λ (names : List Named). Refused (seen_at (find (is_this name) names) []) c.in-Err.error) (λ i. names_of (base i) viewers (c.filters.ensures i)) c.in-Err.ensures)
    (λ same. false≢true (sym c.if-is_absent.false ∙ c.is_absent.ensures.1 same))

use Rattle.std.proofs.Common.{◌<◌, [], All, List, ℕ, length, ap, sym, subst, ◌∙◌, arith}
use Rattle.std.specs.Option.{is_none}
use Rattle.derived.specs.Viewing.{keep_due}
use Rattle.relations.proofs.Filtering.{passing_few, passing_in}
use Rattle.kept_counts.specs.Keeping.{is_kept_by, kept_by}
use Rattle.kept_counts.proofs.Holding.{filter_rows, found_filter}
use Rattle.kept_counts.proofs.Keying.{none_from}
use Rattle.kept_counts.proofs.Placing.{found_at}
use Rattle.kept_counts.proofs.cache.KeptCounts.filtered.Goals as goal

pub kept_rows-requires-clause-few : goal.kept_rows-requires-clause-few
kept_rows-requires-clause-few g c =
    let all = c.args.self.now in
    let view = c.args.view.now in
    let law = c.in-Some.law in
    let props = c.args.props.now in
    let e = c.index.result.now in
    let t = c.in-Some-view_of.rows.now in
    let is = c.in-Some-filter.ensures in
    let found = found_at all c.self.inside.list.items c.deref.result.now view (kept_by law props) c.in-Some-find_filter.at e c.self.view_is c.deref.ensures.value (sym c.find_filter.ensures ∙ c.in-Some-find_filter.is) c.index.ensures in
    let right = found_filter c.args.views.now all view law is.0 props is.1.0 e c.in-Some-filter.filter.now t c.requires found is.1.1 c.in-Some-view_of.ensures in
    let few = passing_few (is_kept_by t.schema law props) [] t.rows in
    let long = ap length right.now.positions in
    let small = right.now.small in
    omega arith

pub kept_rows-requires-clause-in_range : goal.kept_rows-requires-clause-in_range
kept_rows-requires-clause-in_range g c =
    let all = c.args.self.now in
    let view = c.args.view.now in
    let law = c.in-Some.law in
    let props = c.args.props.now in
    let e = c.index.result.now in
    let t = c.in-Some-view_of.rows.now in
    let is = c.in-Some-filter.ensures in
    let found = found_at all c.self.inside.list.items c.deref.result.now view (kept_by law props) c.in-Some-find_filter.at e c.self.view_is c.deref.ensures.value (sym c.find_filter.ensures ∙ c.in-Some-find_filter.is) c.index.ensures in
    let right = found_filter c.args.views.now all view law is.0 props is.1.0 e c.in-Some-filter.filter.now t c.requires found is.1.1 c.in-Some-view_of.ensures in
    subst (λ (ps : List ℕ). All (λ i. i < length t.rows) ps) (sym right.now.positions) (passing_in (is_kept_by t.schema law props) [] t.rows)

pub returns : goal.returns
returns g c =
    let all = c.args.self.now in
    let view = c.args.view.now in
    let law = c.in-Some.law in
    let props = c.args.props.now in
    let m = g.V.Viewer.meaning c.args.viewer.now in
    let e = c.index.result.now in
    let t = c.in-Some-view_of.rows.now in
    let is = c.in-Some-filter.ensures in
    let found = found_at all c.self.inside.list.items c.deref.result.now view (kept_by law props) c.in-Some-find_filter.at e c.self.view_is c.deref.ensures.value (sym c.find_filter.ensures ∙ c.in-Some-find_filter.is) c.index.ensures in
    let right = found_filter c.args.views.now all view law is.0 props is.1.0 e c.in-Some-filter.filter.now t c.requires found is.1.1 c.in-Some-view_of.ensures in
    record {
      table = t;
      there = c.in-Some-view_of.ensures;
      due = none_from (keep_due m.name m.takes props t.schema) (ap (λ s. is_none (keep_due m.name m.takes props s)) (sym c.schema.ensures.value) ∙ sym c.in_ok-may.ensures ∙ c.if-not-may.false);
      is = c.in_ok-kept_rows.ensures ∙ filter_rows t m law props c.in-Some-filter.filter.now right c.in-Some.ensures;
    }

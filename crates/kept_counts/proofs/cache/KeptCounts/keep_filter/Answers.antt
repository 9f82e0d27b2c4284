use Rattle.std.proofs.Common.{◌≡◌, None, ap, sym, ◌∙◌}
use Rattle.std.specs.Option.{is_none}
use Rattle.derived.specs.Viewing.{keep_due}
use Rattle.tables.specs.Tables.{StoredTable}
use Rattle.kept_counts.specs.Keeping.{kept_by}
use Rattle.kept_counts.proofs.Holding.{made_right, put_few, put_kept, put_there}
use Rattle.kept_counts.proofs.Keying.{none_from}
use Rattle.kept_counts.proofs.cache.KeptCounts.keep_filter.Goals as goal

pub of_filter-requires-clause-due : goal.of_filter-requires-clause-due
of_filter-requires-clause-due g c =
    let m = g.V.Viewer.meaning c.args.viewer.now in
    let props = c.args.props.now in
    let t = c.in-Some.rows.now in
    none_from (keep_due m.name m.takes props t.schema) (ap (λ s. is_none (keep_due m.name m.takes props s)) (sym c.schema.ensures.value) ∙ sym c.in_ok-may.ensures ∙ c.if-not-may.false)

pub returns-clause-kept : goal.returns-clause-kept
returns-clause-kept g c =
    let e = c.in_ok-of_filter.field-0 in
    put_kept c.args.views.now c.args.self.now c.put.new.self e c.put.result c.put.ensures.put c.put.ensures.err c.requires.kept
    (made_right c.args.views.now c.args.view.now c.in-Some.rows.now e c.in-Some.ensures c.in_ok-of_filter.ensures.view c.in_ok-of_filter.ensures.over)

pub returns-clause-made : goal.returns-clause-made
returns-clause-made g c =
    let m = g.V.Viewer.meaning c.args.viewer.now in
    put_there (λ (t : StoredTable). keep_due m.name m.takes c.args.props.now t.schema ≡ None) c.args.views.now c.args.self.now c.put.new.self c.in_ok-of_filter.field-0 c.args.view.now (kept_by c.args.law c.args.props.now)
    c.put.result c.put.ensures.put c.in_ok-of_filter.ensures.of

pub returns-clause-few : goal.returns-clause-few
returns-clause-few g c = put_few c.args.self.now c.put.new.self c.in_ok-of_filter.field-0 c.put.result c.put.ensures.put c.put.ensures.err

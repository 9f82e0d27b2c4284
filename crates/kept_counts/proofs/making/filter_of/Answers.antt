use Rattle.std.proofs.Common.{ℕ, ℤ, List, map, ap, subst, ◌∙◌}
use Rattle.std.proofs.lemmas.Result.{IfOk-weaker}
use Rattle.live_counts.specs.Filtering.{IsFiltered}
use Rattle.mk_value.specs.Data.{Datum}
use Rattle.mk_value.specs.Heading.{Attribute}
use Rattle.relations.specs.Columns.{column_of}
use Rattle.relations.specs.Refusals.{absent}
use Rattle.viewed.specs.Asking.{is_kept}
use Rattle.viewed.proofs.Dues.{args_present, may_ask}
use Rattle.kept_counts.proofs.making.filter_of.Goals as goal

pub columns_of-requires : goal.columns_of-requires
columns_of-requires g c =
    let m = g.V.Viewer.meaning c.args.viewer.now in
    ap (λ (s : List Attribute). absent s c.args.props.now) c.schema.ensures.value ∙ args_present m.name m.takes c.args.props.now c.args.rows.now.schema c.requires.due

pub make-requires : goal.make-requires
make-requires g c =
    let m = g.V.Viewer.meaning c.args.viewer.now in
    may_ask m.name m.takes c.args.props.now c.args.rows.now.schema c.in_ok-columns.columns c.requires.due
    (c.in_ok-columns.ensures ∙ ap (λ (s : List Attribute). map (column_of s) c.args.props.now) c.schema.ensures.value)

pub returns : goal.returns
returns g c =
    let m = g.V.Viewer.meaning c.args.viewer.now in
    let schema = c.args.rows.now.schema in
    let rows = c.args.rows.now.rows in
    let props = c.args.props.now in
    let columns = c.in_ok-columns.ensures ∙ ap (λ (s : List Attribute). map (column_of s) props) c.schema.ensures.value in
    IfOk-weaker c.make.result _ _
    (λ f now. record {
      present = args_present m.name m.takes props schema c.requires.due;
      now =
          subst (λ (gives : List Datum → ℤ). IsFiltered (is_kept gives (map (column_of schema) props)) rows f.kept) c.requires.law
          (subst (λ (cs : List ℕ). IsFiltered (is_kept m.gives cs) rows f.kept) columns now);
    })
    c.make.ensures.now

use Rattle.std.proofs.Common.{List, ap, subst, ◌∙◌}
use Rattle.derived.specs.Viewing.{keep_due}
use Rattle.mk_value.specs.Heading.{Attribute}
use Rattle.mk_value.specs.Tables.{Table}
use Rattle.relations.specs.Answers.{AnswersDue}
use Rattle.kept_counts.proofs.making.may_ask.Goals as goal

pub returns : goal.returns
returns g c =
    let m = g.V.Viewer.meaning c.args.viewer.now in
    let props = c.args.props.now in
    let schema = ap (λ (t : Table). t.schema) c.in_ok-no_rows.ensures ∙ c.in_ok-copy.ensures in
    c.is_done.ensures (keep_due m.name m.takes props c.args.schema.now)
    (subst (λ (s : List Attribute). AnswersDue (keep_due m.name m.takes props s) c.keep-answer.result) schema c.keep-answer.ensures.due)

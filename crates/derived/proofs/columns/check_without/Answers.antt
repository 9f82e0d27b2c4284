use Rattle.std.proofs.Common.{None, Some, cond, get_or, [], ap, sym, ◌∙◌}
use Rattle.relations.specs.declared.error.DerivedError.TheVariants.{NoProp}
use Rattle.relations.specs.Refusals.{absent, none_left}
use Rattle.relations.specs.Rows.{others}
use Rattle.relations.proofs.Projections.{none_left_is}
use Rattle.derived.proofs.Projections.{given_some, first_none, first_some}
use Rattle.relations.proofs.Faults.{both_none, second_is}
use Rattle.derived.proofs.columns.check_without.Goals as goal

pub returns-then-has_others : goal.returns-then-has_others
returns-then-has_others c =
    let left = none_left_is c.args.schema.now c.args.props.now c.args.props.now ∙ ap (λ b. cond b None (Some (NoProp (get_or c.args.props.now 0 [])))) (sym c.has_others.ensures ∙ c.if-has_others.true) in
    both_none (absent c.args.schema.now c.args.props.now) (none_left (others c.args.schema.now c.args.props.now) c.args.props.now) c.in_ok-check_names.ensures left

pub returns-in_ok-copy-in-Some : goal.returns-in_ok-copy-in-Some
returns-in_ok-copy-in-Some c =
    let left = none_left_is c.args.schema.now c.args.props.now c.args.props.now ∙ ap (λ b. cond b None (Some (NoProp (get_or c.args.props.now 0 [])))) (sym c.has_others.ensures ∙ c.if-has_others.false) in
    let same = first_some c.args.props.now c.in-Some.first.now c.in-Some.ensures.value ∙ sym c.in_ok-copy-in-Some.ensures in
    second_is (absent c.args.schema.now c.args.props.now) (none_left (others c.args.schema.now c.args.props.now) c.args.props.now) (NoProp c.in_ok-copy-in-Some.field-0) c.in_ok-check_names.ensures
    (left ∙ ap (λ n. Some (NoProp n)) same)

pub returns-in-None : goal.returns-in-None
returns-in-None c =
    absurd (first_none c.args.props.now c.in-None.ensures.value (given_some c.args.schema.now c.args.props.now c.len-width.ensures.whole.limits.some (sym c.has_others.ensures ∙ c.if-has_others.false)))

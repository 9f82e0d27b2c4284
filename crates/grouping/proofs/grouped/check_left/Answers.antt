use Rattle.std.proofs.Common.{true, false, Some, ap, sym, ◌∙◌}
use Rattle.relations.specs.declared.error.DerivedError.TheVariants.{NoProp}
use Rattle.grouping.proofs.GroupTables.{left_is}
use Rattle.grouping.proofs.grouped.check_left.Goals as goal

pub returns-then-not-has_others : goal.returns-then-not-has_others
returns-then-not-has_others c =
    ap (λ n. Some (NoProp n)) c.in_ok-copy.ensures ∙ sym (left_is c.args.schema.now c.args.keys.now c.args.sub.now false (sym c.has_others.ensures ∙ c.if-not-has_others.true))

pub returns : goal.returns
returns c = sym (left_is c.args.schema.now c.args.keys.now c.args.sub.now true (sym c.has_others.ensures ∙ c.if-not-has_others.false))

use Rattle.std.proofs.Common.{◌≡◌, ◌++◌, ◌∷◌, [], ap, sym, ◌∙◌, subst, true}
use Rattle.relations.specs.Rows.{has}
use Rattle.relations.proofs.Names.{all_present}
use Rattle.relations.proofs.Projections.{named_again, named_more}
use Rattle.relations.proofs.columns.named_columns.Goals as goal

pub loop-at-preserved-then-is_among : goal.loop-at-preserved-then-is_among
loop-at-preserved-then-is_among c =
    named_again c.args.schema.now c.args.names.now c.loop-at.at c.index-names-at.result c.loop-at.columns c.loop-at-test.true c.index-names-at.is c.loop-at.invariant (sym c.is_among.ensures ∙ c.if-is_among.true)

pub column-requires : goal.column-requires
column-requires c =
    subst (λ n. has c.args.schema.now n ≡ true) (sym c.index-names-at.is) (all_present c.args.schema.now c.args.names.now c.requires c.loop-at.at c.index-names-at.result c.loop-at-test.true)

pub loop-at-preserved : goal.loop-at-preserved
loop-at-preserved c =
    c.in_ok-push.ensures.ok ∙ ap (λ k. c.loop-at.columns ++ k ∷ []) c.column.ensures.value
    ∙ named_more c.args.schema.now c.args.names.now c.loop-at.at c.index-names-at.result c.loop-at.columns c.loop-at-test.true c.index-names-at.is c.loop-at.invariant (sym c.is_among.ensures ∙ c.if-is_among.false)

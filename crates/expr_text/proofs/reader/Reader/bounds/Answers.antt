use Rattle.expr_text.specs.Arguments.{IsRange}
use Rattle.expr_text.specs.Spelling.{range_tokens}
use Rattle.expr_text.specs.declared.list.Item.TheVariants as items
use Rattle.expr_text.proofs.Lists.{list_done, list_goes}
use Rattle.expr_text.proofs.reader.Reader.bounds.Goals as goal

pub members-preserved : goal.members-preserved
members-preserved c =
    list_goes items.Range IsRange range_tokens _ _ _ _ _ _ _ c.members.invariant c.in_ok-push.ensures.ok c.in_ok-member.ensures.whole c.in_ok-member.ensures.spells c.in_ok-member.ensures.meets
    (c.in_ok-ends.ensures.comma c.if-branch.false) (c.in_ok-ends.ensures.further c.if-branch.false)

pub returns-then-branch-clause-whole : goal.returns-then-branch-clause-whole
returns-then-branch-clause-whole c =
    let done =
    list_done items.Range IsRange range_tokens _ _ _ _ _ _ _ c.members.invariant c.in_ok-push.ensures.ok c.in_ok-member.ensures.whole c.in_ok-member.ensures.spells c.in_ok-member.ensures.meets
    (c.in_ok-ends.ensures.end c.if-branch.true) (c.in_ok-ends.ensures.met c.if-branch.true) in
    (done.some, done.whole)

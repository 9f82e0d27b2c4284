use Rattle.std.proofs.Common.{length}
use Rattle.expr_text.specs.Arguments.{IsRange}
use Rattle.expr_text.specs.Readers.{rest_of}
use Rattle.expr_text.specs.Spelling.{range_tokens}
use Rattle.expr_text.specs.declared.list.Item.TheVariants as items
use Rattle.expr_text.proofs.Lists.{ListRead}
use Rattle.expr_text.proofs.reader.Reader.bounds.Given as goal

abbrev pub invariant-members : goal.invariant-members
invariant-members l = ListRead items.Range IsRange range_tokens (rest_of l.fn.self) l.list (rest_of l.self)

abbrev pub decreases-members : goal.decreases-members
decreases-members l = length l.self.rest.now

use Rattle.std.proofs.Common.{length}
use Rattle.expr_text.specs.Readers.{rest_of}
use Rattle.expr_text.proofs.UpToEnd.{CriteriaRead}
use Rattle.expr_text.proofs.reader.Reader.last_criteria.Given as goal

abbrev pub invariant-members : goal.invariant-members
invariant-members l = CriteriaRead (rest_of l.fn.self) l.list (rest_of l.self)

abbrev pub decreases-members : goal.decreases-members
decreases-members l = length l.self.rest.now

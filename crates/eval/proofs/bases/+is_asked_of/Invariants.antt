use Rattle.expr_text.specs.Meanings.{query_of}
use Rattle.expr_text.specs.Queries.{depth_of}
use Rattle.eval.proofs.bases.+is_asked_of.Given as goal

abbrev pub decreases-is_asked_of : goal.decreases-is_asked_of
decreases-is_asked_of l = depth_of (query_of l.expr.now)

use Rattle.expr_text.specs.Meanings.{query_of}
use Rattle.expr_text.specs.Queries.{depth_of}
use Rattle.eval.proofs.evaluation.+eval.Given as goal

abbrev pub decreases-eval : goal.decreases-eval
decreases-eval g l = depth_of (query_of l.expr.now)

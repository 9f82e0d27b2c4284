use Rattle.expr_text.proofs.Refusing.{finished}
use Rattle.expr_text.proofs.reading.read_pieces.Goals as goal

pub returns-clause-met : goal.returns-clause-met
returns-clause-met c = finished _ _ c.in_ok-expr.ensures.meets c.in_ok-over.ensures.spells

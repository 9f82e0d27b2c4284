use Rattle.expr_text.proofs.Outcomes.{some_reading}
use Rattle.expr_text.proofs.laws.some_reading.Goals as goal

pub returns : goal.returns
returns c = some_reading _ c.some_cutting.ensures.0 c.some_cutting.ensures.1 c.some_cutting.ensures.2

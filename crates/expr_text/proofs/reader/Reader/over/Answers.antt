use Rattle.expr_text.proofs.Running.{nothing_more, some_first}
use Rattle.expr_text.proofs.reader.Reader.over.Goals as goal

pub returns-clause-fails : goal.returns-clause-fails
returns-clause-fails c = nothing_more _ _ _ (some_first _ _ c.in-Some.ensures.value)

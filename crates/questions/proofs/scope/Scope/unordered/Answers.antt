use Rattle.questions.proofs.Unordered.{in_order}
use Rattle.questions.proofs.scope.Scope.unordered.Goals as goal

pub returns-in_default : goal.returns-in_default
returns-in_default g c = in_order _ _ c.value.ensures

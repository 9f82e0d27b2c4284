use Rattle.recovery.proofs.OneRefusal.{one_refused_at}
use Rattle.recovery.proofs.laws.one_refusal.Goals as goal

pub returns : goal.returns
returns c = λ image m slot one other mark. one_refused_at image m mark slot one other

use Rattle.session.proofs.Unfaulted.{answered_unfaulted}
use Rattle.session.proofs.laws.lines_are_answered.Goals as goal

pub returns : goal.returns
returns c = answered_unfaulted

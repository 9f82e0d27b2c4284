use Rattle.restructure.proofs.Placing.{restructured_rests}
use Rattle.restructure.proofs.laws.rests_on_what_it_was.Goals as goal

pub returns : goal.returns
returns c = restructured_rests

use Rattle.restructure.proofs.Back.{number_back, text_back}
use Rattle.restructure.proofs.Same.{value_same}
use Rattle.restructure.proofs.Whole.{value_fits}
use Rattle.restructure.proofs.laws.there_and_back.Goals as goal

pub returns-clause-fits : goal.returns-clause-fits
returns-clause-fits c = λ old new d h. value_fits new old d h

pub returns-clause-same : goal.returns-clause-same
returns-clause-same c = value_same

pub returns-clause-number : goal.returns-clause-number
returns-clause-number c = number_back

pub returns-clause-text : goal.returns-clause-text
returns-clause-text c = text_back

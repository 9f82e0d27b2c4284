use Rattle.live.proofs.Digits.{digits_bound}
use Rattle.live.proofs.laws.steps_are_digits.Goals as goal

pub returns : goal.returns
returns c = digits_bound

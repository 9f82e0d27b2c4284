use Rattle.stream_codec.proofs.Going.{one_cut, one_wrong, wrong_or_cut}
use Rattle.stream_codec.proofs.laws.one_place.Goals as goal

pub returns-clause-wrong : goal.returns-clause-wrong
returns-clause-wrong c = one_wrong

pub returns-clause-cut : goal.returns-clause-cut
returns-clause-cut c = one_cut

pub returns-clause-apart : goal.returns-clause-apart
returns-clause-apart c = wrong_or_cut

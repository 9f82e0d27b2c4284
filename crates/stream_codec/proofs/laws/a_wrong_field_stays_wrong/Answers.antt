use Rattle.stream_codec.proofs.Going.{wrong_stays}
use Rattle.stream_codec.proofs.laws.a_wrong_field_stays_wrong.Goals as goal

pub returns : goal.returns
returns c = wrong_stays

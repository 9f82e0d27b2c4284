use Rattle.stream_codec.proofs.WholeStream.{stream_not_cut, stream_not_wrong}
use Rattle.stream_codec.proofs.laws.a_stream_is_whole.Goals as goal

pub returns-clause-wrong : goal.returns-clause-wrong
returns-clause-wrong c = stream_not_wrong

pub returns-clause-cut : goal.returns-clause-cut
returns-clause-cut c = stream_not_cut

use Rattle.stream_codec.proofs.WholeStream.{one_root}
use Rattle.stream_codec.proofs.laws.one_stream.Goals as goal

pub returns : goal.returns
returns c = one_root

use Rattle.std.proofs.Common.{vec_len}
use Rattle.stream_codec.proofs.partial_view.+settle.Given as goal

abbrev pub decreases-settle : goal.decreases-settle
decreases-settle l = vec_len l.view.around

use Rattle.dir_codec.proofs.Whole.{no_flaw}
use Rattle.dir_codec.proofs.laws.whole_or_flawed.Goals as goal

pub returns : goal.returns
returns c = no_flaw

use Rattle.dir_codec.proofs.Going.{one_first_flaw}
use Rattle.dir_codec.proofs.laws.one_flaw.Goals as goal

pub returns : goal.returns
returns c = one_first_flaw

use Rattle.live.proofs.Rising.{raised_is}
use Rattle.watches.proofs.laws.events_raise.Goals as goal

pub returns : goal.returns
returns c = raised_is

use Rattle.live.proofs.Heard.{have_heard}
use Rattle.live.proofs.laws.watches_follow_events.Goals as goal

pub returns : goal.returns
returns c = have_heard

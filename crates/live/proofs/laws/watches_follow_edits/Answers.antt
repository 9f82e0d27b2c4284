use Rattle.live.proofs.Heard.{have_stepped}
use Rattle.live.proofs.laws.watches_follow_edits.Goals as goal

pub returns : goal.returns
returns c = have_stepped

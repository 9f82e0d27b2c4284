use Rattle.watches.proofs.Lines.{have_followed}
use Rattle.watches.proofs.laws.watches_follow_lines.Goals as goal

pub returns : goal.returns
returns c = have_followed

use Rattle.live.proofs.Standing.{seen_shown}
use Rattle.live.proofs.laws.a_watch_shows_its_rows.Goals as goal

pub returns : goal.returns
returns c = seen_shown

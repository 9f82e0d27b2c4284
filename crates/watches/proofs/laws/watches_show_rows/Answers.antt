use Rattle.watches.proofs.Shown.{watch_shows}
use Rattle.watches.proofs.laws.watches_show_rows.Goals as goal

pub returns : goal.returns
returns c views all name watching number h is = watch_shows views all name watching number h is

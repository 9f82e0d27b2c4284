use Rattle.watches.proofs.Holding.{kept_where_others}
use Rattle.watches.proofs.laws.unwatched_views_may_change.Goals as goal

pub returns : goal.returns
returns c old new all view none others h = kept_where_others old new all view none others h

use Rattle.keyed_views.proofs.Holding.{kept_where_others}
use Rattle.keyed_views.proofs.laws.unmapped_views_may_change.Goals as goal

pub returns : goal.returns
returns c = λ old new all view none others h. kept_where_others old new all view none others h

use Rattle.kept_counts.proofs.Holding.{over_view}
use Rattle.kept_counts.proofs.laws.counted_over_view.Goals as goal

pub returns : goal.returns
returns c = over_view

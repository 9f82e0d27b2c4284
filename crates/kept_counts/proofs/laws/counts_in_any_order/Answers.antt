use Rattle.kept_counts.proofs.Reordered.{counts_same}
use Rattle.kept_counts.proofs.laws.counts_in_any_order.Goals as goal

pub returns : goal.returns
returns c = counts_same

use Rattle.std.proofs.Common.{ap}
use Rattle.kept_counts.specs.declared.kept.Kept.TheVariants.{Counts}
use Rattle.kept_counts.specs.Keeping.{counted_by}
use Rattle.kept_counts.proofs.Placing.{of_made}
use Rattle.kept_counts.proofs.entry.Entry.of_counts.Goals as goal

pub returns-clause-of : goal.returns-clause-of
returns-clause-of c = of_made c.args.view.now c.in_ok-view.view (counted_by c.args.keys.now) (Counts c.in_ok-keys.keys c.in_ok-counts.counts) c.in_ok-view.ensures (ap counted_by c.in_ok-keys.ensures)

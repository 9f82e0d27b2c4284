use Rattle.std.proofs.Common.{ap}
use Rattle.kept_counts.specs.declared.kept.Kept.TheVariants.{Filter}
use Rattle.kept_counts.specs.Keeping.{kept_by}
use Rattle.kept_counts.proofs.Placing.{of_made}
use Rattle.kept_counts.proofs.entry.Entry.of_filter.Goals as goal

pub returns-clause-of : goal.returns-clause-of
returns-clause-of g c =
    of_made c.args.view.now c.in_ok-view.view (kept_by c.args.law c.args.props.now) (Filter c.args.law c.in_ok-props.props c.in_ok-filter.filter) c.in_ok-view.ensures (ap (kept_by c.args.law) c.in_ok-props.ensures)

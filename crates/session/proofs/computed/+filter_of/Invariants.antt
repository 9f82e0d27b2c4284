use Rattle.std.proofs.Common.{length}
use Rattle.session.proofs.computed.+filter_of.Given as goal

abbrev pub decreases-filter_of : goal.decreases-filter_of
decreases-filter_of l = length l.filters.now

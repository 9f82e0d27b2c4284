use Rattle.kept_counts.specs.Keeping.{AreCounted}
use Rattle.session.proofs.counts.keep_each.Given as goal

abbrev pub invariant-loop-watch : goal.invariant-loop-watch
invariant-loop-watch g l = AreCounted l.fn.views l.counted

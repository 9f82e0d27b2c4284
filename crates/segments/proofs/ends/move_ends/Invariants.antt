use Rattle.segments.proofs.Moved.{AreMoved}
use Rattle.segments.proofs.ends.move_ends.Given as goal

abbrev pub invariant-loop-at : goal.invariant-loop-at
invariant-loop-at l = AreMoved l.initial.ends l.ends l.after l.at l.from l.to

use Rattle.live_counts.proofs.kept.enter.Goals as goal

pub put_in-requires-clause-order : goal.put_in-requires-clause-order
put_in-requires-clause-order c = c.requires.order c.in-Some.row c.in-Some.is

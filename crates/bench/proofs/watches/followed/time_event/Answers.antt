use Rattle.bench.proofs.watches.followed.time_event.Goals as goal

pub before-requires-clause-now : goal.before-requires-clause-now
before-requires-clause-now g c = c.reserve.ensures.now c.args.table.now.schema c.args.table.now.rows c.requires

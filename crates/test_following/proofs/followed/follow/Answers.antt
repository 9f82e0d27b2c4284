use Rattle.test_following.proofs.followed.follow.Goals as goal

pub before-requires-clause-now : goal.before-requires-clause-now
before-requires-clause-now g c = c.reserve.ensures.now c.args.followed.table.schema c.args.followed.table.rows c.args.followed.now

use Rattle.relations.proofs.Narrowing.{asks_more}
use Rattle.relations.proofs.merging.merged.Goals as goal

pub loop-criterion-preserved : goal.loop-criterion-preserved
loop-criterion-preserved c =
    asks_more c.args.criteria.now c.loop-criterion.merged c.add.new.merged c.loop-criterion.criterion-index c.criterion-item.result c.loop-criterion-test.true c.criterion-item.is c.loop-criterion.invariant c.in_ok-add.ensures

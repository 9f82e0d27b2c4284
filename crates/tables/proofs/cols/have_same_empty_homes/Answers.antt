use Rattle.std.proofs.Common.{arith}
use Rattle.std.proofs.lemmas.Bool.{OnTrue_at}
use Rattle.tables.proofs.SameHomes.{all_homes, homes_more}
use Rattle.tables.proofs.cols.have_same_empty_homes.Goals as goal

pub loop-at-preserved : goal.loop-at-preserved
loop-at-preserved c =
    homes_more c.args.ones.now c.args.twos.now c.loop-at.at c.index-ones-at.result c.index-twos-at.result c.loop-at-test.true (omega arith) c.index-ones-at.is c.index-twos-at.is (OnTrue_at c.if-not-has_same_empty_home.false c.has_same_empty_home.ensures) c.loop-at.invariant

pub returns : goal.returns
returns c = all_homes c.args.ones.now c.args.twos.now c.loop-at.at (omega arith) (omega arith) c.loop-at.invariant

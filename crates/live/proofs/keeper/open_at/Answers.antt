use Rattle.std.proofs.Common.{◌+◌, ◌<◌, sym, arith}
use Rattle.live.proofs.Numbering.{map_stays, opened_below}
use Rattle.live.specs.Placing.{opened}
use Rattle.live.proofs.keeper.open_at.Goals as goal

pub returns-else-p-size-clause-list : goal.returns-else-p-size-clause-list
returns-else-p-size-clause-list c =
    sym (map_stays (opened c.args.p) (λ k. k + 1 < c.args.size) (λ k h. let e = c.if-p-size.false in sym (opened_below c.args.p k (omega arith))) c.args.kept.now.list c.requires.within)

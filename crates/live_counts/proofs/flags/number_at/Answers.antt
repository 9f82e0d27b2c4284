use Rattle.std.proofs.Common.{◌≢◌, ◌<◌, length, get_or, arith, sym}
use Rattle.live.proofs.Placing.{position_absent}
use Rattle.live_counts.proofs.Numbering.{absent_from, found_at}
use Rattle.live_counts.proofs.flags.number_at.Goals as goal
use Rattle.live_counts.proofs.flags.number_at.Goals.{else-at-starts-via-then-at-starts+else-starts-at, else-at-starts-via-else-at-starts}

pub returns-then-starts-at : goal.returns-then-starts-at
returns-then-starts-at c =
    let e = c.first_from-at.ensures in
    sym (found_at c.args.starts.now c.args.number c.first_from-at.result e.within e.below e.above c.if-at-starts.true c.if-starts-at.true)

pub returns : goal.returns
returns c =
    let e = c.first_from-at.ensures in
    let starts = c.args.starts.now in
    let other : c.first_from-at.result < length starts → get_or starts c.first_from-at.result 0 ≢ c.args.number = λ q same. elim c.else-at-starts.branch [
      | else-at-starts-via-then-at-starts+else-starts-at w ↦ w.if-starts-at.false same
      | else-at-starts-via-else-at-starts w ↦ absurd (omega arith)
    ] in
    sym (position_absent c.args.number starts (absent_from starts c.args.number c.first_from-at.result e.within e.below e.above other c.requires.order))

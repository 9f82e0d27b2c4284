use Rattle.std.proofs.Common.{◌++◌, length, take, drop, arith}
use Rattle.std.proofs.lemmas.Result.{IfOk-weaker}
use Rattle.segments.specs.Joined.{counts_of}
use Rattle.segments.proofs.Joined.{length-counts}
use Rattle.int_col.specs.Cuts.{AreCuts}
use Rattle.int_col.proofs.Splices.{cuts_after}
use Rattle.int_col.proofs.spine.Spine.cut_for.Goals as goal

pub returns-clause-cut : goal.returns-clause-cut
returns-clause-cut c =
    let cs = counts_of c.args.self.now in
    let t = c.args.replaced.now in
    IfOk-weaker c.cut.result _ (λ fresh. AreCuts (take t.first cs ++ (counts_of fresh.items ++ drop t.after cs)))
    (λ fresh made. cuts_after cs (counts_of fresh.items) t.first t.after (length c.args.values.now) (rw c.self.view_is at c.self.invariant.cut)
    (omega (arith, c.requires.order, c.requires.in_range, length-counts c.args.self.now)) made c.requires.before c.requires.behind)
    c.cut.ensures.cuts

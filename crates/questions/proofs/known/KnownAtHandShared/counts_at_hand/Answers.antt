use Rattle.std.proofs.Common.{ap, sym, subst}
use Rattle.std.proofs.lemmas.Option.{IfSome_then}
use Rattle.std.proofs.lemmas.Result.{IfOk-weaker}
use Rattle.kept_counts.specs.Keeping.{IsCountsOf}
use Rattle.questions.specs.Kept.{Names}
use Rattle.questions.proofs.AtHand.{counts_shown}
use Rattle.questions.proofs.known.KnownAtHandShared.counts_at_hand.Goals as goal

pub table-requires : goal.table-requires
table-requires c = c.self.invariant.1.1

pub returns-in-Some : goal.returns-in-Some
returns-in-Some c =
    let n = c.args.self.now in
    let name = c.args.name.now in
    let keys = c.args.keys.now in
    let count = c.args.count.now in
    let view = c.in-Some.view.now in
    IfOk-weaker c.table.result _ _
    (λ found h. IfSome_then found h (λ d of. counts_shown n view name keys count d c.in-Some.ensures (subst (λ (m : Names). IsCountsOf m.views view keys count d) c.self.view_is of)))
    c.table.ensures

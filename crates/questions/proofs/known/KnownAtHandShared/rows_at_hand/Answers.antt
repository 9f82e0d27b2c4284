use Rattle.std.proofs.Common.{subst}
use Rattle.std.proofs.lemmas.Option.{IfSome_then}
use Rattle.std.proofs.lemmas.Result.{IfOk-weaker}
use Rattle.kept_counts.specs.Keeping.{IsFilterOf}
use Rattle.questions.specs.Kept.{Names}
use Rattle.questions.proofs.AtHand.{rows_shown}
use Rattle.questions.proofs.known.KnownAtHandShared.rows_at_hand.Goals as goal

pub filtered-requires : goal.filtered-requires
filtered-requires g c = c.self.invariant.1.1

pub returns : goal.returns
returns g c =
    let n = c.args.self.now in
    let name = c.args.name.now in
    let viewer = g.V.Viewer.meaning c.args.viewer.now in
    let props = c.args.props.now in
    IfOk-weaker c.filtered.result _ _
    (λ found h. IfSome_then found h (λ d of. rows_shown n name viewer props d (subst (λ (m : Names). IsFilterOf m.views name viewer props d) c.self.view_is of)))
    c.filtered.ensures

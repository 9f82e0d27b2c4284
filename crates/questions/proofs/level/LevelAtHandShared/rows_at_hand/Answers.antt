use Rattle.std.proofs.Common.{map}
use Rattle.std.proofs.lemmas.Option.{IfSome_then}
use Rattle.std.proofs.lemmas.Result.{IfOk-weaker}
use Rattle.computing.specs.Computed.{names_of}
use Rattle.derived.specs.Layers.{table_of}
use Rattle.questions.proofs.AtHand.{rows_before}
use Rattle.questions.proofs.level.LevelAtHandShared.rows_at_hand.Goals as goal

pub returns : goal.returns
returns g c =
    let l = c.args.self.now in
    let first = g.N.Names.named l.names.now in
    let second = names_of (g.S.Names.named l.sources.now) (map g.V.Viewer.meaning l.viewers.now) l.watches.now in
    let viewer = g.W.Viewer.meaning c.args.viewer.now in
    IfOk-weaker c.rows_at_hand.result _ _
    (λ found h. IfSome_then found h (λ d at. rows_before first second c.args.name.now viewer c.args.props.now (table_of d) at))
    c.rows_at_hand.ensures

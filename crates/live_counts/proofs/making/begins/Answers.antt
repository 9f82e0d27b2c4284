use Rattle.std.proofs.Common.{false, get_or, not, arith, ap, sym, ◌∙◌}
use Rattle.live_counts.specs.Runs.{flags, ties}
use Rattle.live_counts.proofs.Flagging.{flag_first}
use Rattle.live_counts.proofs.Following.{flag_at}
use Rattle.live_counts.proofs.making.begins.Goals as goal

pub returns-then-at-eq0 : goal.returns-then-at-eq0
returns-then-at-eq0 g c =
    let same = ties (g.T.TableRead.schema c.args.rows.now) c.args.op.now (g.T.TableRead.rows c.args.rows.now) in
    let p = c.requires.there in
    let e = c.if-at-eq0.true in
    sym (ap (λ n. get_or (flags same c.args.kept.now) n false) e ∙ flag_first same c.args.kept.now (omega arith))

pub returns : goal.returns
returns g c =
    let same = ties (g.T.TableRead.schema c.args.rows.now) c.args.op.now (g.T.TableRead.rows c.args.rows.now) in
    ap not c.ties_in.ensures ∙ flag_at same c.args.kept.now c.args.at c.requires.there c.if-at-eq0.false

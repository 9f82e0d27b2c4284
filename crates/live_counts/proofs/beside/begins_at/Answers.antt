use Rattle.std.proofs.Common.{false, get_or, not, ◌-◌, arith, ap, sym, ◌∙◌}
use Rattle.live_counts.specs.Runs.{flags, ties}
use Rattle.live_counts.proofs.Flagging.{flag_first}
use Rattle.live_counts.proofs.Following.{flag_at}
use Rattle.live_counts.proofs.beside.begins_at.Goals as goal

pub returns-then-at-eq0-clause-value : goal.returns-then-at-eq0-clause-value
returns-then-at-eq0-clause-value g c =
    let same = ties (g.P.Probe.schema c.args.rows.now) c.args.op.now (g.P.Probe.rows c.args.rows.now) in
    let p = c.requires.there in
    let e = c.if-at-eq0.true in
    sym (ap (λ n. get_or (flags same c.args.kept.now.list) n false) e ∙ flag_first same c.args.kept.now.list (omega arith))

pub returns-clause-value : goal.returns-clause-value
returns-clause-value g c =
    let same = ties (g.P.Probe.schema c.args.rows.now) c.args.op.now (g.P.Probe.rows c.args.rows.now) in
    ap not (c.ties_with.ensures.value ∙ ap (λ k. same k c.get-2.result) c.get.ensures ∙ ap (same (get_or c.args.kept.now.list (c.args.at - 1) 0)) c.get-2.ensures) ∙ flag_at same c.args.kept.now.list c.args.at c.requires.there c.if-at-eq0.false

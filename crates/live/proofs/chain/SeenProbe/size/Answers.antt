use Rattle.std.proofs.Common.{◌≤◌, sym, subst, ◌∙◌}
use Rattle.mk_value.specs.Limits.{max_rows}
use Rattle.live.proofs.Seeing.{seen_size}
use Rattle.live.proofs.chain.SeenProbe.size.Goals as goal

pub returns-in-Some-clause-value : goal.returns-in-Some-clause-value
returns-in-Some-clause-value g c =
    let s = c.args.self.now in
    let w = c.in-Some.w in
    let d = c.index-self-w.result in
    c.len.ensures ∙ sym (seen_size (g.P.Probe.rows s.rows.now) s.watches.now s.over s.linked.sources w d c.in-Some.is (s.there w c.in-Some.is))

pub returns-in-Some-clause-few : goal.returns-in-Some-clause-few
returns-in-Some-clause-few g c =
    let s = c.args.self.now in
    let w = c.in-Some.w in
    let d = c.index-self-w.result in
    let p = s.there w c.in-Some.is in
    subst (λ n. n ≤ max_rows) (sym (seen_size (g.P.Probe.rows s.rows.now) s.watches.now s.over s.linked.sources w d c.in-Some.is p)) (s.linked.few w d p)

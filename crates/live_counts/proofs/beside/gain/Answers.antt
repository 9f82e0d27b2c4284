use Rattle.std.proofs.Common.{◌≡◌, ◌+◌, ◌^◌, ◌<◌, ◌≤◌, Bool, false, ℕ, List, None, All, length, get_or, ap, arith, sym, subst, ◌∙◌}
use Rattle.std.specs.List.{insert, remove}
use Rattle.std.proofs.lemmas.List.Edits.{length-remove}
use Rattle.live.specs.Placing.{without}
use Rattle.live.specs.Watching.{positions}
use Rattle.live.proofs.Ops.{positions_few}
use Rattle.live.proofs.Turning.{positions_in}
use Rattle.live_counts.specs.Runs.{flags, going_flag, raised, ties}
use Rattle.live_counts.proofs.Flagging.{length-flags}
use Rattle.live_counts.proofs.Following.{flag_again, going_in}
use Rattle.live_counts.proofs.Numbering.{raised_in, raised_order}
use Rattle.live_counts.proofs.beside.gain.Goals as goal

pub flag_that_comes-flag-requires-clause-within : goal.flag_that_comes-flag-requires-clause-within
flag_that_comes-flag-requires-clause-within g c =
    let schema = g.P.Probe.schema c.args.rows.now in
    let rows = g.P.Probe.rows c.args.rows.now in
    subst (λ (ks : List ℕ). All (λ k. k < length rows) ks) (sym c.requires.now) (positions_in schema c.args.op.now rows)

pub put_flag-requires-clause-order : goal.put_flag-requires-clause-order
put_flag-requires-clause-order g c =
    let same = ties (g.P.Probe.schema c.args.rows.now) c.args.op.now (g.P.Probe.rows c.args.rows.now) in
    subst (λ (ks : List ℕ). (i j d : ℕ) → i < j → j < length ks → get_or ks i d < get_or ks j d) (sym c.requires.others) (raised_order (flags same (without c.args.to c.args.kept.now.list)))

pub put_flag-requires-clause-small : goal.put_flag-requires-clause-small
put_flag-requires-clause-small g c =
    let schema = g.P.Probe.schema c.args.rows.now in
    let rows = g.P.Probe.rows c.args.rows.now in
    let op = c.args.op.now in
    let same = ties schema op rows in
    let kept : List ℕ = c.args.kept.now.list in
    let to = c.in-Some.to in
    let there : to < length kept = c.requires.there to c.in-Some.is in
    let fs : List Bool = flags same (without c.args.to kept) in
    let long = length-flags same None (without c.args.to kept) in
    let out = ap (λ o. length (without o kept)) c.in-Some.is in
    let one = length-remove kept to there in
    let few = positions_few schema op rows in
    let all = ap length c.requires.now in
    let most = c.size-size.ensures.few in
    subst (λ (ks : List ℕ). (k d : ℕ) → k < length ks → get_or ks k d + 1 < 2 ^ 32) (sym c.requires.others) (λ k d p. let q = raised_in fs k d p in omega arith)

pub put_flag-requires-clause-flag_small : goal.put_flag-requires-clause-flag_small
put_flag-requires-clause-flag_small g c =
    let schema = g.P.Probe.schema c.args.rows.now in
    let rows = g.P.Probe.rows c.args.rows.now in
    let op = c.args.op.now in
    let same = ties schema op rows in
    let kept : List ℕ = c.args.kept.now.list in
    let there : c.in-Some.to < length kept = c.requires.there c.in-Some.to c.in-Some.is in
    let fs : List Bool = flags same kept in
    let long = length-flags same None kept in
    let within = going_in fs c.in-Some.to (omega arith) in
    let place = c.flag_that_comes-flag.ensures.place in
    let few = positions_few schema op rows in
    let all = ap length c.requires.now in
    let most = c.size-size.ensures.few in
    omega arith

pub returns-clause-starts : goal.returns-clause-starts
returns-clause-starts g c =
    let schema = g.P.Probe.schema c.args.rows.now in
    let rows = g.P.Probe.rows c.args.rows.now in
    let op = c.args.op.now in
    let same = ties schema op rows in
    let kept : List ℕ = c.args.kept.now.list in
    let to = c.in-Some.to in
    let there : to < length kept = c.requires.there to c.in-Some.is in
    let others : c.args.starts.now.items ≡ raised (flags same (remove kept to)) = c.requires.others ∙ ap (λ o. raised (flags same (without o kept))) c.in-Some.is in
    let f = c.flag_that_comes-flag.result.0 in
    let v = c.flag_that_comes-flag.result.1 in
    let e = c.flag_that_comes-flag.ensures in
    let long = length-flags same None kept in
    let left = length-flags same None (remove kept to) in
    let one = length-remove kept to there in
    let within = going_in (flags same kept) to (omega arith) in
    let place = e.place in
    let le : f ≤ length (flags same (remove kept to)) = omega arith in
    let is = c.requires.now in
    let all : (ks : List ℕ) → ks ≡ positions schema op rows → to < length ks → f ≡ going_flag (flags same ks) to → v ≡ get_or (flags same ks) f false → insert (flags same (remove ks to)) f v ≡ flags same ks =
    λ ks same_ks p a b.
    ap (λ (xs : List ℕ). insert (flags same (remove xs to)) f v) same_ks
    ∙ flag_again schema op rows to f v (subst (λ (xs : List ℕ). to < length xs) same_ks p) (a ∙ ap (λ (xs : List ℕ). going_flag (flags same xs) to) same_ks) (b ∙ ap (λ (xs : List ℕ). get_or (flags same xs) f false) same_ks)
    ∙ ap (flags same) (sym same_ks) in
    c.put_flag.ensures.flags (flags same (remove kept to)) others le ∙ ap raised (all kept is there e.place e.flag)

use Rattle.std.proofs.Common.{◌≡◌, Bool, List, None, suc, ◌+◌, false, get_or, arith, ap, sym, ◌∙◌}
use Rattle.live_counts.specs.Runs.{flags, ties}
use Rattle.live_counts.proofs.Flagging.{length-flags}
use Rattle.live_counts.proofs.Following.{going_alone, going_last, going_lowered, going_next}
use Rattle.live_counts.proofs.beside.flag_that_comes.Goals as goal
use Rattle.live_counts.proofs.beside.flag_that_comes.Goals.{else-here-via-then-here+then-next-count+else-not-begins_at, else-here-via-then-here+else-next-count, else-here-via-else-here}

pub returns-then-not-begins_at-clause-place : goal.returns-then-not-begins_at-clause-place
returns-then-not-begins_at-clause-place g c =
    let same = ties (g.P.Probe.schema c.args.rows.now) c.args.op.now (g.P.Probe.rows c.args.rows.now) in
    let fs : List Bool = flags same c.args.kept.now.list in
    let to = c.args.to in
    let long = length-flags same None c.args.kept.now.list in
    let near = c.if-next-count.true in
    let size = c.len-count.ensures.len in
    let next : get_or fs (suc to) false ≡ false = ap (λ n. get_or fs n false) (let e : suc to ≡ to + 1 = omega arith in e) ∙ sym c.begins_at.ensures.value ∙ c.if-not-begins_at.true in
    going_next fs to (sym c.begins_at-here.ensures.value ∙ c.if-here.true) (λ e. absurd (omega arith)) next

pub returns-clause-place : goal.returns-clause-place
returns-clause-place g c =
    let same = ties (g.P.Probe.schema c.args.rows.now) c.args.op.now (g.P.Probe.rows c.args.rows.now) in
    let fs : List Bool = flags same c.args.kept.now.list in
    let to = c.args.to in
    let long = length-flags same None c.args.kept.now.list in
    let there = c.requires.there in
    elim c.else-here.branch [
      | else-here-via-then-here+then-next-count+else-not-begins_at w ↦
          going_alone fs to (ap (λ n. get_or fs n false) (let e : suc to ≡ to + 1 = omega arith in e) ∙ sym w.begins_at.ensures.value ∙ w.if-not-begins_at.false)
      | else-here-via-then-here+else-next-count w ↦ let far = w.if-next-count.false in let size = c.len-count.ensures.len in going_last fs to (omega arith)
      | else-here-via-else-here w ↦ going_lowered fs to (sym c.begins_at-here.ensures.value ∙ w.if-here.false)
    ]

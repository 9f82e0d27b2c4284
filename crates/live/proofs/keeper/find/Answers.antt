use Rattle.std.proofs.Common.{[], ◌≡◌, ◌≢◌, ◌<◌, ℕ, List, length, get_or, All, arith, ap, sym, subst, ◌∙◌}
use Rattle.std.specs.List.{AllPairs}
use Rattle.std.specs.declared.cmp.Ordering.TheVariants.{Less}
use Rattle.live.proofs.keeper.find.Goals as goal
use Rattle.relations.specs.Positions.{place_cmp}
use Rattle.live.specs.Watching.{order, positions}
use Rattle.live.proofs.Ops.{positions_few}
use Rattle.live.proofs.Placing.{picked_positions, pairs_from_ascends, found_place, no_place}
use Rattle.live.proofs.Turning.{positions_in}
use Rattle.relations.proofs.Ascending.{Ascends}
use Rattle.live.proofs.keeper.find.Goals.{else-at-len-via-then-at-len+else-get-row, else-at-len-via-else-at-len}

pub place-at-requires-clause-within : goal.place-at-requires-clause-within
place-at-requires-clause-within g c = subst (λ (ks : List ℕ). All (λ k. k < length (g.P.Probe.rows c.args.rows.now)) ks) (sym c.requires.now) (positions_in (g.P.Probe.schema c.args.rows.now) c.args.op.now (g.P.Probe.rows c.args.rows.now))

pub place-at-requires-clause-order : goal.place-at-requires-clause-order
place-at-requires-clause-order g c =
    let rows = g.P.Probe.rows c.args.rows.now in
    let cmp = place_cmp (order (g.P.Probe.schema c.args.rows.now) c.args.op.now) [] rows in
    subst (λ (ks : List ℕ). AllPairs (λ i j. cmp i j ≡ Less) ks) (sym c.requires.now) (pairs_from_ascends cmp (positions (g.P.Probe.schema c.args.rows.now) c.args.op.now rows) (picked_positions (g.P.Probe.schema c.args.rows.now) c.args.op.now rows).ascends)

pub returns-then-get-row-clause-value : goal.returns-then-get-row-clause-value
returns-then-get-row-clause-value g c =
    let e = c.place-at.ensures in
    sym (found_place (g.P.Probe.schema c.args.rows.now) c.args.op.now (g.P.Probe.rows c.args.rows.now) c.args.kept.now.list c.args.row c.place-at.result e.within e.below e.above (let e = c.len.ensures.len in let t = c.if-at-len.true in omega arith) (sym c.get.ensures ∙ c.if-get-row.true))

pub returns-then-get-row-clause-cost : goal.returns-then-get-row-clause-cost
returns-then-get-row-clause-cost g c =
    let few = positions_few (g.P.Probe.schema c.args.rows.now) c.args.op.now (g.P.Probe.rows c.args.rows.now) in
    let long = ap length c.requires.now in
    omega (arith, c.place-at.ensures.cost)

pub returns-clause-value : goal.returns-clause-value
returns-clause-value g c =
    let e = c.place-at.ensures in
    let rows = g.P.Probe.rows c.args.rows.now in
    let up = subst (Ascends (place_cmp (order (g.P.Probe.schema c.args.rows.now) c.args.op.now) [] rows)) (sym c.requires.now) (picked_positions (g.P.Probe.schema c.args.rows.now) c.args.op.now rows).ascends in
    let other : c.place-at.result < length c.args.kept.now.list → get_or c.args.kept.now.list c.place-at.result 0 ≢ c.args.row = λ q same. elim c.else-at-len.branch [
      | else-at-len-via-then-at-len+else-get-row w ↦ w.if-get-row.false (w.get.ensures ∙ same)
      | else-at-len-via-else-at-len w ↦ absurd (omega arith)
    ] in
    sym (no_place (g.P.Probe.schema c.args.rows.now) c.args.op.now rows c.args.kept.now.list c.args.row c.place-at.result e.within e.below e.above up other)

pub returns-clause-cost : goal.returns-clause-cost
returns-clause-cost g c =
    let few = positions_few (g.P.Probe.schema c.args.rows.now) c.args.op.now (g.P.Probe.rows c.args.rows.now) in
    let long = ap length c.requires.now in
    omega (arith, c.place-at.ensures.cost)

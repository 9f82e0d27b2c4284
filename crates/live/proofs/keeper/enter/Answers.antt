use Rattle.std.proofs.Common.{◌+◌, ◌-◌, ◌*◌, ◌^◌, ◌≤◌, ◌==◌, length, arith, ap, sym, subst, ◌∙◌}
use Rattle.std.specs.List.{position}
use Rattle.live.proofs.keeper.enter.Goals as goal
use Rattle.live.proofs.Placing.{inserted, inserted_place}
use Rattle.live.proofs.Turning.{entered, entered_in, entered_order, entered_few, left_out, left_out_place}

pub returns-then-not-has-clause-now : goal.returns-then-not-has-clause-now
returns-then-not-has-clause-now g c =
    left_out (g.P.Probe.schema c.args.rows.now) c.args.op.now (g.P.Probe.rows c.args.rows.now) c.args.kept.now.list c.args.row c.requires.there c.requires.others (sym c.has.ensures.value ∙ c.if-not-has.true)

pub returns-then-not-has-clause-value : goal.returns-then-not-has-clause-value
returns-then-not-has-clause-value g c =
    sym (left_out_place (g.P.Probe.schema c.args.rows.now) c.args.op.now (g.P.Probe.rows c.args.rows.now) c.args.kept.now.list c.args.row c.requires.there c.requires.others)

pub place-at-requires-clause-within : goal.place-at-requires-clause-within
place-at-requires-clause-within g c =
    entered_in (g.P.Probe.schema c.args.rows.now) c.args.op.now (g.P.Probe.rows c.args.rows.now) c.args.kept.now.list c.args.row c.requires.there c.requires.others

pub place-at-requires-clause-order : goal.place-at-requires-clause-order
place-at-requires-clause-order g c =
    entered_order (g.P.Probe.schema c.args.rows.now) c.args.op.now (g.P.Probe.rows c.args.rows.now) c.args.kept.now.list c.args.row c.requires.there c.requires.others

pub returns-clause-now : goal.returns-clause-now
returns-clause-now g c =
    let rows = g.P.Probe.rows c.args.rows.now in
    let is = c.requires.others in
    let e = c.place-at.ensures in
    c.insert.ensures.list ∙ inserted (g.P.Probe.schema c.args.rows.now) c.args.op.now rows c.args.kept.now.list c.args.row c.place-at.result e.within e.below e.above c.requires.there
    (entered (g.P.Probe.schema c.args.rows.now) c.args.op.now rows c.args.kept.now.list c.args.row c.requires.there is) (sym c.has.ensures.value ∙ c.if-not-has.false)

pub returns-clause-value : goal.returns-clause-value
returns-clause-value g c =
    let rows = g.P.Probe.rows c.args.rows.now in
    let e = c.place-at.ensures in
    sym (ap (position (λ k. k == c.args.row)) c.insert.ensures.list ∙ inserted_place (g.P.Probe.schema c.args.rows.now) c.args.op.now rows c.args.kept.now.list c.args.row c.place-at.result e.within e.below e.above)

pub returns-clause-cost : goal.returns-clause-cost
returns-clause-cost g c sorting =
    let rows = g.P.Probe.rows c.args.rows.now in
    let few = entered_few (g.P.Probe.schema c.args.rows.now) c.args.op.now rows c.args.kept.now.list c.args.row c.requires.there c.requires.others in
    let e = c.place-at.ensures in
    let free = c.has.ensures.free sorting in
    let cost : 2 ^ (c.place-at.new.steps - c.args.steps.now) ≤ 2 * length c.args.kept.now.list + 1 = subst (λ s. 2 ^ (c.place-at.new.steps - s) ≤ 2 * length c.args.kept.now.list + 1) free e.cost in
    omega arith

pub insert-requires-clause-few : goal.insert-requires-clause-few
insert-requires-clause-few g c =
    let few = entered_few (g.P.Probe.schema c.args.rows.now) c.args.op.now (g.P.Probe.rows c.args.rows.now) c.args.kept.now.list c.args.row c.requires.there c.requires.others in
    let size = c.size-size.ensures.few in
    let there = c.requires.there in
    omega arith

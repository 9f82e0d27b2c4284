use Rattle.std.proofs.Common.{◌+◌, ◌-◌, ◌*◌, ◌^◌, ◌≤◌, ◌==◌, length, arith, ap, sym, subst, ◌∙◌}
use Rattle.std.specs.List.{position}
use Rattle.live.proofs.Spreading.{kept_few, kept_in, kept_order, left_out, left_out_place, put_place, run_put}
use Rattle.live.proofs.keeper.put_run.Goals as goal

pub returns-then-not-has-clause-now : goal.returns-then-not-has-clause-now
returns-then-not-has-clause-now g c =
    let o = c.requires.others in
    left_out (g.P.Probe.schema c.args.rows.now) c.args.op.now (g.P.Probe.rows c.args.rows.now) o.before o.row c.args.at c.args.count o.within o.made c.requires.some c.size-size.ensures.few
    c.args.kept.now.list o.others (sym c.has.ensures.value ∙ c.if-not-has.true)

pub returns-then-not-has-clause-value : goal.returns-then-not-has-clause-value
returns-then-not-has-clause-value g c =
    let o = c.requires.others in
    sym (left_out_place (g.P.Probe.schema c.args.rows.now) c.args.op.now (g.P.Probe.rows c.args.rows.now) o.before o.row c.args.at c.args.count o.within o.made c.requires.some c.size-size.ensures.few
    c.args.kept.now.list o.others)

pub returns-clause-value : goal.returns-clause-value
returns-clause-value g c =
    let o = c.requires.others in
    let e = c.place-place.ensures in
    sym (ap (position (λ k. k == c.args.at)) c.insert_many.ensures.list
    ∙ put_place (g.P.Probe.schema c.args.rows.now) c.args.op.now (g.P.Probe.rows c.args.rows.now) o.before o.row c.args.at c.args.count o.within o.made c.requires.some c.size-size.ensures.few
    c.args.kept.now.list o.others c.place-place.result e.within)

pub place-place-requires-clause-within : goal.place-place-requires-clause-within
place-place-requires-clause-within g c =
    let o = c.requires.others in
    kept_in (g.P.Probe.schema c.args.rows.now) c.args.op.now (g.P.Probe.rows c.args.rows.now) o.before o.row c.args.at c.args.count o.within o.made c.requires.some c.size-size.ensures.few
    c.args.kept.now.list o.others

pub place-place-requires-clause-order : goal.place-place-requires-clause-order
place-place-requires-clause-order g c =
    let o = c.requires.others in
    kept_order (g.P.Probe.schema c.args.rows.now) c.args.op.now (g.P.Probe.rows c.args.rows.now) o.before o.row c.args.at c.args.count o.within o.made c.requires.some c.size-size.ensures.few
    c.args.kept.now.list o.others

pub returns-clause-now : goal.returns-clause-now
returns-clause-now g c =
    let o = c.requires.others in
    let e = c.place-place.ensures in
    c.insert_many.ensures.list ∙ run_put (g.P.Probe.schema c.args.rows.now) c.args.op.now (g.P.Probe.rows c.args.rows.now) o.before o.row c.args.at c.args.count o.within o.made c.requires.some c.size-size.ensures.few
    c.args.kept.now.list o.others c.place-place.result e.within e.below e.above (sym c.has.ensures.value ∙ c.if-not-has.false)

pub returns-clause-cost : goal.returns-clause-cost
returns-clause-cost g c sorting =
    let o = c.requires.others in
    let few = kept_few (g.P.Probe.schema c.args.rows.now) c.args.op.now (g.P.Probe.rows c.args.rows.now) o.before o.row c.args.at c.args.count o.within o.made c.requires.some c.size-size.ensures.few
    c.args.kept.now.list o.others in
    let free = c.has.ensures.free sorting in
    let cost : 2 ^ (c.place-place.new.steps - c.args.steps.now) ≤ 2 * length c.args.kept.now.list + 1 = subst (λ s. 2 ^ (c.place-place.new.steps - s) ≤ 2 * length c.args.kept.now.list + 1) free c.place-place.ensures.cost in
    omega arith

pub insert_many-requires-clause-few : goal.insert_many-requires-clause-few
insert_many-requires-clause-few g c =
    let o = c.requires.others in
    let few = kept_few (g.P.Probe.schema c.args.rows.now) c.args.op.now (g.P.Probe.rows c.args.rows.now) o.before o.row c.args.at c.args.count o.within o.made c.requires.some c.size-size.ensures.few c.args.kept.now.list o.others in
    let size = c.size-size.ensures.few in
    omega arith

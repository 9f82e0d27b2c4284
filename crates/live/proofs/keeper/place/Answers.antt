use Rattle.std.proofs.Common.{[], ◌+◌, ◌-◌, ◌/◌, ℕ, length, ap, arith, ◌∙◌, sym}
use Rattle.std.specs.Ordering.{is_lt}
use Rattle.live.proofs.keeper.place.Goals as goal
use Rattle.live.specs.Watching.{order, position_cmp}
use Rattle.live.proofs.Ops.{op_total}
use Rattle.live.proofs.Picks.{place_total}
use Rattle.live.proofs.Searching.{below_more, above_more, spent}

pub loop-low-preserved-then-stands_before : goal.loop-low-preserved-then-stands_before
loop-low-preserved-then-stands_before g c =
    let i = c.loop-low.invariant in
    let t = c.loop-low-test.true in
    let middle : ℕ = c.loop-low.low + (c.loop-low.high - c.loop-low.low) / 2 in
    let rows = g.P.Probe.rows c.args.rows.now in
    let s = spent c.args.steps.now c.loop-low.steps c.stands_before.new.steps (c.loop-low.high - c.loop-low.low) (c.loop-low.high - (middle + 1)) (length c.args.kept.now.list)
    i.least c.stands_before.ensures.least c.stands_before.ensures.one (omega arith) (omega arith) i.left i.cost in
    record {
      ordered = omega arith;
      within = omega arith;
      below = below_more (position_cmp (g.P.Probe.schema c.args.rows.now) c.args.op.now rows) (place_total (order (g.P.Probe.schema c.args.rows.now) c.args.op.now) (op_total (g.P.Probe.schema c.args.rows.now) c.args.op.now) [] rows) c.args.kept.now.list c.requires.order middle c.args.row (omega arith)
          (ap (λ k. is_lt (position_cmp (g.P.Probe.schema c.args.rows.now) c.args.op.now rows k c.args.row)) (sym c.get.ensures) ∙ sym c.stands_before.ensures.value ∙ c.if-stands_before.true);
      above = i.above;
      least = omega (arith, c.stands_before.ensures.least);
      left = s.0;
      cost = s.1;
      free = λ e. c.stands_before.ensures.free e ∙ i.free e;
    }

pub loop-low-preserved : goal.loop-low-preserved
loop-low-preserved g c =
    let i = c.loop-low.invariant in
    let t = c.loop-low-test.true in
    let middle : ℕ = c.loop-low.low + (c.loop-low.high - c.loop-low.low) / 2 in
    let rows = g.P.Probe.rows c.args.rows.now in
    let s = spent c.args.steps.now c.loop-low.steps c.stands_before.new.steps (c.loop-low.high - c.loop-low.low) (middle - c.loop-low.low) (length c.args.kept.now.list)
    i.least c.stands_before.ensures.least c.stands_before.ensures.one (omega arith) (omega arith) i.left i.cost in
    record {
      ordered = omega arith;
      within = omega arith;
      below = i.below;
      above = above_more (position_cmp (g.P.Probe.schema c.args.rows.now) c.args.op.now rows) (place_total (order (g.P.Probe.schema c.args.rows.now) c.args.op.now) (op_total (g.P.Probe.schema c.args.rows.now) c.args.op.now) [] rows) c.args.kept.now.list c.requires.order middle c.args.row (omega arith)
          (ap (λ k. is_lt (position_cmp (g.P.Probe.schema c.args.rows.now) c.args.op.now rows k c.args.row)) (sym c.get.ensures) ∙ sym c.stands_before.ensures.value ∙ c.if-stands_before.false);
      least = omega (arith, c.stands_before.ensures.least);
      left = s.0;
      cost = s.1;
      free = λ e. c.stands_before.ensures.free e ∙ i.free e;
    }

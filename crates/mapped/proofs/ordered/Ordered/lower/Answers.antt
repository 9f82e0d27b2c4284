use Rattle.std.proofs.Common.{◌≡◌, ◌+◌, ◌-◌, ◌<◌, ℕ, true, false, [], length, get_or, ap, sym, ◌∙◌, arith}
use Rattle.std.specs.Ordering.{is_lt}
use Rattle.relations.proofs.Halving.{count_front}
use Rattle.mapped.specs.Keys.{row_to_key}
use Rattle.mapped.proofs.Searching.{below_more, from_more, halved, no_less}
use Rattle.mapped.proofs.Prefixes.{rows_fall}
use Rattle.mapped.proofs.ordered.Ordered.lower.Goals as goal

pub loop-low-preserved-then-is_lt : goal.loop-low-preserved-then-is_lt
loop-low-preserved-then-is_lt g c =
    let i = c.loop-low.invariant in
    let t = c.loop-low-test.true in
    let rows = g.P.KeyProbe.rows c.args.rows.now in
    let key = c.args.key.now in
    let middle : ℕ = c.middle-middle.result in
    let half = c.middle-middle.ensures in
    let inside : middle < length rows = omega (arith, i.within, half.below) in
    let less : is_lt (row_to_key (get_or rows middle []) key) ≡ true = ap is_lt (sym c.compare_key.ensures.value) ∙ sym c.is_lt.ensures ∙ c.if-is_lt.true in
    let s = halved c.args.steps.now c.loop-low.steps c.compare_key.new.steps (c.loop-low.high - c.loop-low.low) (c.loop-low.high - (middle + 1)) (length rows)
    i.least c.compare_key.ensures.one (omega arith) half.rest i.left in
    record {
      halves = omega (arith, half.below);
      within = i.within;
      below = below_more (λ k. row_to_key (get_or rows k []) key) (length rows) (rows_fall c.args.self.now rows key c.requires.ascend c.requires.few) middle inside less;
      from = i.from;
      least = omega (arith, c.compare_key.ensures.one, i.least);
      left = s.0;
      cost = s.1;
    }

pub loop-low-preserved : goal.loop-low-preserved
loop-low-preserved g c =
    let i = c.loop-low.invariant in
    let t = c.loop-low-test.true in
    let rows = g.P.KeyProbe.rows c.args.rows.now in
    let key = c.args.key.now in
    let middle : ℕ = c.middle-middle.result in
    let half = c.middle-middle.ensures in
    let inside : middle < length rows = omega (arith, i.within, half.below) in
    let not_less : is_lt (row_to_key (get_or rows middle []) key) ≡ false = ap is_lt (sym c.compare_key.ensures.value) ∙ sym c.is_lt.ensures ∙ c.if-is_lt.false in
    let s = halved c.args.steps.now c.loop-low.steps c.compare_key.new.steps (c.loop-low.high - c.loop-low.low) (middle - c.loop-low.low) (length rows)
    i.least c.compare_key.ensures.one (omega arith) half.front i.left in
    record {
      halves = half.from;
      within = omega (arith, i.within, half.below);
      below = i.below;
      from = from_more (λ k. row_to_key (get_or rows k []) key) (length rows) (rows_fall c.args.self.now rows key c.requires.ascend c.requires.few) middle inside not_less;
      least = omega (arith, c.compare_key.ensures.one, i.least);
      left = s.0;
      cost = s.1;
    }

pub returns-clause-count : goal.returns-clause-count
returns-clause-count g c =
    let i = c.loop-low.invariant in
    let t = c.loop-low-test.false in
    let rows = g.P.KeyProbe.rows c.args.rows.now in
    let key = c.args.key.now in
    count_front (λ row. is_lt (row_to_key row key)) rows [] c.loop-low.low (omega (arith, i.halves, i.within)) (λ k p. ap is_lt (i.below k p))
    (λ k p q. no_less (row_to_key (get_or rows k []) key) (i.from k (omega (arith, i.halves)) q))

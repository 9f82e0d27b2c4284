use Rattle.std.proofs.Common.{◌<◌, ℕ, [], length, get_or, ap, sym, subst, ◌∙◌, arith}
use Rattle.std.specs.Ordering.{is_lt}
use Rattle.relations.specs.WholeOrder.{whole_row_cmp}
use Rattle.std.proofs.lemmas.List.{get_or_default}
use Rattle.mapped.proofs.Searching.{below_more, from_more}
use Rattle.mapped.proofs.Moving.{keys_fall}
use Rattle.mapped.proofs.order.place_of.Goals as goal

pub loop-low-preserved-then-is_lt : goal.loop-low-preserved-then-is_lt
loop-low-preserved-then-is_lt c =
    let i = c.loop-low.invariant in
    let t = c.loop-low-test.true in
    let middle : ℕ = c.middle-middle.result in
    let half = c.middle-middle.ensures in
    let inside : middle < length c.args.order.now.list = omega (arith, i.within, half.below) in
    let there = subst (λ i. i < length c.args.keys.now) (sym c.get.ensures) (c.requires.within middle 0 inside) in
    let here = c.index-keys-get.is ∙ get_or_default c.args.keys.now c.get.result c.index-keys-get.result [] there ∙ ap (λ i. get_or c.args.keys.now i []) c.get.ensures in
    let asked = ap is_lt (ap (λ z. whole_row_cmp z c.args.key.now) (sym here) ∙ sym c.cmp_whole_row.ensures) ∙ sym c.is_lt.ensures ∙ c.if-is_lt.true in
    record {
      halves = omega (arith, half.below);
      within = i.within;
      below = below_more (λ k. whole_row_cmp (get_or c.args.keys.now (get_or c.args.order.now.list k 0) []) c.args.key.now) (length c.args.order.now.list)
          (keys_fall c.args.keys.now c.args.order.now.list c.args.key.now c.requires) middle inside asked;
      from = i.from;
    }

pub loop-low-preserved : goal.loop-low-preserved
loop-low-preserved c =
    let i = c.loop-low.invariant in
    let t = c.loop-low-test.true in
    let middle : ℕ = c.middle-middle.result in
    let half = c.middle-middle.ensures in
    let inside : middle < length c.args.order.now.list = omega (arith, i.within, half.below) in
    let there = subst (λ i. i < length c.args.keys.now) (sym c.get.ensures) (c.requires.within middle 0 inside) in
    let here = c.index-keys-get.is ∙ get_or_default c.args.keys.now c.get.result c.index-keys-get.result [] there ∙ ap (λ i. get_or c.args.keys.now i []) c.get.ensures in
    let asked = ap is_lt (ap (λ z. whole_row_cmp z c.args.key.now) (sym here) ∙ sym c.cmp_whole_row.ensures) ∙ sym c.is_lt.ensures ∙ c.if-is_lt.false in
    record {
      halves = half.from;
      within = omega (arith, i.within, half.below);
      below = i.below;
      from = from_more (λ k. whole_row_cmp (get_or c.args.keys.now (get_or c.args.order.now.list k 0) []) c.args.key.now) (length c.args.order.now.list)
          (keys_fall c.args.keys.now c.args.order.now.list c.args.key.now c.requires) middle inside asked;
    }

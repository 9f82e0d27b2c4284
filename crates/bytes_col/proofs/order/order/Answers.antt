use Rattle.std.proofs.Common.{ap, ◌∙◌}
use Rattle.std.specs.Ordering.{nat_cmp}
use Rattle.std.specs.Cmp.Lexicographic.{slice_cmp}
use Rattle.std.proofs.Common.{take, drop, length, ◌-◌}
use Rattle.bytes_col.proofs.Orders.{past_front, behind}
use Rattle.bytes_col.proofs.order.order.Goals as goal

pub returns : goal.returns
returns c =
    let xs = c.args.a.now in
    let ys = c.args.b.now in
    let at = c.alike-at.result in
    c.cmp.ensures
    ∙ ap (λ z. slice_cmp nat_cmp z (take (length ys - at) (drop at ys))) (behind at xs)
    ∙ ap (λ z. slice_cmp nat_cmp (drop at xs) z) (behind at ys)
    ∙ past_front at xs ys c.alike-at.ensures.same

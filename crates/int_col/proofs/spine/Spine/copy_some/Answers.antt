use Rattle.std.proofs.Common.{◌≡◌, ◌+◌, ◌≤◌, ◌++◌, length, take, drop, sym, ap, ◌∙◌, arith}
use Rattle.std.proofs.lemmas.List.{length-take-le}
use Rattle.segments.proofs.Joined.{items_from_place, within_part}
use Rattle.int_col.proofs.spine.Spine.copy_some.Goals as goal

pub returns-clause-values : goal.returns-clause-values
returns-clause-values c =
    let n = c.min-count.result in
    let place = rw (← c.self.view_is) at c.find-place.ensures.place in
    let here = c.get-segment.ensures in
    let within : n ≤ length c.args.into.now = omega (arith, c.min-count.ensures) in
    let enough : c.find-place.result.offset + n ≤ length c.get-segment.result.now =
    omega (arith, c.min-count.ensures, c.len.ensures.count, within_part c.self.inside.segments c.args.from c.find-place.result c.get-segment.result.now place here) in
    let count : length (take n c.args.into.now) ≡ n = length-take-le n c.args.into.now within in
    rw (← c.self.view_is)
    (ap (λ xs. xs ++ drop n c.args.into.now)
    (rw count at c.copy_values.ensures
    ∙ sym (items_from_place c.self.inside.segments c.args.from c.find-place.result c.get-segment.result.now place here n enough)))

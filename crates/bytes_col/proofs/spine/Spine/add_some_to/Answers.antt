use Rattle.std.proofs.Common.{◌≡◌, ◌+◌, ◌-◌, ◌≤◌, ◌++◌, length, take, drop, sym, ap, ◌∙◌, arith}
use Rattle.bytes_col.specs.Parts.{added}
use Rattle.segments.specs.Joined.{joined}
use Rattle.segments.proofs.Joined.{items_from_place, within_part}
use Rattle.bytes_col.proofs.spine.Spine.add_some_to.Goals as goal

pub returns-clause-values : goal.returns-clause-values
returns-clause-values c =
    let n = c.min-count.result in
    let o = c.find-place.result.offset in
    let place = c.find-place.ensures.place in
    let here = c.chunk-chunk.ensures in
    let enough : o + n ≤ length c.chunk-chunk.result.now =
    omega (arith, c.min-count.ensures, c.len.ensures.count, within_part c.args.self.now c.args.from c.find-place.result c.chunk-chunk.result.now place here) in
    let inner : o + n - o ≡ n = omega arith in
    let outer : c.args.from + n - c.args.from ≡ n = omega arith in
    c.in_ok-add.ensures
    ∙ ap (λ xs. added c.args.parts.now ++ xs)
    (ap (λ k. take k (drop o c.chunk-chunk.result.now)) inner
    ∙ sym (items_from_place c.args.self.now c.args.from c.find-place.result c.chunk-chunk.result.now place here n enough)
    ∙ ap (λ k. take k (drop c.args.from (joined c.args.self.now))) (sym outer))

use Rattle.std.proofs.Common.{◌≤◌, ◌++◌, [], ◌∷◌, length, sum, ap, ◌∙◌, arith}
use Rattle.std.proofs.lemmas.List.Elements.{All-from_recursion}
use Rattle.segments.proofs.Joined.{length-joined}
use Rattle.segments.proofs.Last.{length-last}
use Rattle.int_col.proofs.Grown.{segments_few, counts_with_last}
use Rattle.int_col.proofs.spine.Spine.with_last.Goals as goal

pub spliced-requires : goal.spliced-requires
spliced-requires c =
    let ss = c.self.inside.segments in
    let whole = rw (← c.self.view_is) at c.requires in
    let counted = counts_with_last ss c.self.inside.ends c.args.last c.len.result c.count-count.result c.self.invariant.counted c.count-count.ensures.count (c.len.ensures.count ∙ ap length c.get.ensures) in (
      omega arith,
      (
        omega arith,
        (
          omega (arith, c.count-count.ensures.count),
          (
            All-from_recursion (λ n. n ≤ 2048) (c.len.result ∷ []) (c.len.ensures.few, tt),
            omega (arith, ap sum counted, length-joined (ss ++ c.args.last ∷ []), whole.few),
          ),
        ),
      ),
    )

pub push-requires : goal.push-requires
push-requires c =
    let ss = c.self.inside.segments in
    let whole = rw (← c.self.view_is) at c.requires in
    omega (arith, segments_few (ss ++ c.args.last ∷ []) whole, length-last ss c.args.last, ap length c.in_ok-segments.ensures.cases)

pub invariant_of-result : goal.invariant_of-result
invariant_of-result c =
    let ss = c.self.inside.segments in
    let whole = rw (← c.self.view_is) at c.requires in
    let counted = counts_with_last ss c.self.inside.ends c.args.last c.len.result c.count-count.result c.self.invariant.counted c.count-count.ensures.count (c.len.ensures.count ∙ ap length c.get.ensures) in
    rw (c.in_ok-push.ensures.ok, c.in_ok-segments.ensures.cases)
    (record { cut = whole.cut; counted = c.in_ok-ends.ensures ∙ counted })

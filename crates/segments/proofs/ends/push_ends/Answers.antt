use Rattle.std.proofs.Common.{◌+◌, ◌∷◌, ◌++◌, List, ℕ, [], get_or, take, sym, ap, ◌∙◌, arith}
use Rattle.std.proofs.lemmas.List.{append_assoc}
use Rattle.std.proofs.lemmas.Slice.{pushed}
use Rattle.segments.specs.Segments.{ends_from}
use Rattle.segments.proofs.Counts.{sum-take-more, ends_from-more}
use Rattle.segments.proofs.Places.{start_within}
use Rattle.segments.proofs.ends.push_ends.Goals as goal

pub overflow_add-end : goal.overflow_add-end
overflow_add-end c =
    omega (arith, c.requires, c.loop-count.invariant.end, sum-take-more c.args.counts.now c.loop-count.count-index c.loop-count-test.true, start_within c.args.counts.now (c.loop-count.count-index + 1) (omega arith))

pub loop-count-preserved : goal.loop-count-preserved
loop-count-preserved c =
    let cs : List ℕ = c.args.counts.now in
    let k : ℕ = c.loop-count.count-index in
    let end : ℕ = c.loop-count.end + get_or cs k 0 in
    let one : List ℕ = end ∷ [] in
    record {
      end = omega (arith, c.loop-count.invariant.end, sum-take-more cs k c.loop-count-test.true);
      items =
          pushed one c.loop-count.invariant.items c.in_ok-push.was c.push.ensures.items
          ∙ append_assoc c.args.out.now.items (ends_from c.args.from (take k cs)) one
          ∙ ap (λ xs. c.args.out.now.items ++ xs) (sym (ends_from-more c.args.from cs k end c.loop-count-test.true (omega (arith, c.loop-count.invariant.end))));
    }

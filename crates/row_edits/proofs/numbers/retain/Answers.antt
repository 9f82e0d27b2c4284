use Rattle.std.proofs.Common.{◌≡◌, ℕ, ◌+◌, ◌<◌, true, length, set, subst, sym, arith}
use Rattle.std.proofs.lemmas.List.Filters.{FiltersInPlace, FiltersInPlace-more_set}
use Rattle.row_edits.specs.Runs.{is_outside}
use Rattle.row_edits.proofs.Runs.{filters_skip, inside, outside_high, outside_low}
use Rattle.row_edits.proofs.numbers.retain.Goals as goal
use Rattle.row_edits.proofs.numbers.retain.Goals.{then-k-at, then-k-at-via-then-k-at, then-k-at-via-else-k-at+then-end-k, else-k-at+else-end-k}

pub loop-i-preserved : goal.loop-i-preserved
loop-i-preserved c =
    let h = c.loop-i.invariant.filters in
    let i = c.loop-i.i in
    let x : ℕ = c.index-k.result.now in
    let t = c.loop-i-test.true in
    let long = h.long in
    let lt : i < length c.loop-i.kept.items = omega arith in
    let low : ℕ = c.args.at in
    let count : ℕ = c.args.count in
    record {
      filters = elim c.if-k-at.branch [
        | then-k-at w ↦
            let yes : is_outside low count x ≡ true = elim w.then-k-at.branch [
              | then-k-at-via-then-k-at v ↦ outside_low low count x v.if-k-at.true
              | then-k-at-via-else-k-at+then-end-k v ↦ outside_high low count x v.if-end-k.true
            ] in
            subst (λ s. FiltersInPlace (is_outside low count) c.args.kept.now.items (set c.loop-i.kept.items c.loop-i.left x) s (i + 1)) (sym w.left-is) (FiltersInPlace-more_set h lt yes c.index-k.ensures)
        | else-k-at+else-end-k w ↦
            subst (λ s. FiltersInPlace (is_outside low count) c.args.kept.now.items (set c.loop-i.kept.items c.loop-i.left x) s (i + 1)) (sym w.left-is)
            (filters_skip h lt (inside low count x w.if-k-at.false w.if-end-k.false) c.index-k.ensures)
      ];
      len = c.loop-i.invariant.len;
      capacity = c.loop-i.invariant.capacity;
    }

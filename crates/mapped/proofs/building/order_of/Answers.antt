use Rattle.std.proofs.Common.{◌≡◌, ℕ, List, length, IsPermutation, ap, subst, ◌∙◌, rules, arith}
use Rattle.std.specs.List.Sorted.{IsSortedBy}
use Rattle.std.specs.Ordering.{is_lt}
use Rattle.std.proofs.lemmas.Fn.{always_returns_same}
use Rattle.mk_value.specs.Data.{Datum}
use Rattle.relations.specs.Positions.{numbers, place_cmp}
use Rattle.relations.specs.WholeOrder.{whole_row_cmp}
use Rattle.mapped.proofs.Sorting.{at_ranks, sorted_is}
use Rattle.mapped.proofs.building.order_of.Goals as goal

pub returns : goal.returns
returns c =
    let keys = c.args.keys.now in
    let order = c.sort_unstable_by.new.self.items in
    let t = c.loop-at-test.false in
    let e = c.loop-at.auto.at-end in
    let last : c.loop-at.at ≡ length keys = omega arith in
    let all = c.loop-at.invariant ∙ ap numbers last in
    sorted_is keys order (subst (λ (ns : List ℕ). IsPermutation ns order) all c.sort_unstable_by.ensures.permutation)
    (subst (λ (d : List Datum). IsSortedBy (λ i j. is_lt (place_cmp whole_row_cmp d keys i j)) order) c.new-none.ensures
    (c.sort_unstable_by.ensures.sorted (λ i j. is_lt (place_cmp whole_row_cmp c.new-none.result keys i j)) (at_ranks keys c.new-none.result) (always_returns_same _ _ _ (λ a r q k.
    let one : r ≡ place_cmp whole_row_cmp c.new-none.result keys a.0.now a.1.0.now = search rules in
    (ap is_lt one, search rules)))))

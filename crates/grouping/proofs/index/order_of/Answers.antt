use Rattle.std.proofs.Common.{ℕ, List, [], ◌∷◌, ◌++◌, length, map, ap, sym, subst, ◌∙◌}
use Rattle.std.proofs.lemmas.List.{length-map}
use Rattle.std.proofs.lemmas.List.Sorted.{length_permutation}
use Rattle.grouping.specs.Index.{IsOrderOf}
use Rattle.grouping.specs.declared.entry.Entry.{Entry}
use Rattle.grouping.proofs.Entries.{order_from, map_take_more, take_all, length_numbers}
use Rattle.grouping.proofs.index.order_of.Goals as goal

pub loop-entry-preserved : goal.loop-entry-preserved
loop-entry-preserved c =
    c.in_ok-push.ensures.items ∙ (λ i. c.loop-entry.invariant i ++ (c.entry-item.is i).at ∷ [])
    ∙ map_take_more (λ (x : Entry). x.at) c.deref-entry-items.result.now c.loop-entry.entry-index c.entry-item.result c.loop-entry-test.true

pub returns-clause-order : goal.returns-clause-order
returns-clause-order c =
    let all = c.loop-entry.invariant ∙ ap (map (λ (x : Entry). x.at)) (take_all c.deref-entry-items.result.now c.loop-entry.entry-index c.loop-entry-test.false ∙ c.deref-entry-items.ensures.value) in
    subst (IsOrderOf c.args.rows.now) (sym all)
    (order_from (λ (x : Entry). x.at) (λ (x : Entry). x.row.now) c.args.rows.now c.in_ok-entries.entries.items c.sort_unstable.new.self.items c.in_ok-entries.ensures.numbers c.in_ok-entries.ensures.rows
    c.sort_unstable.ensures.permutation c.sort_unstable.ensures.sorted)

pub returns-clause-len : goal.returns-clause-len
returns-clause-len c =
    let all = c.loop-entry.invariant ∙ ap (map (λ (x : Entry). x.at)) (take_all c.deref-entry-items.result.now c.loop-entry.entry-index c.loop-entry-test.false ∙ c.deref-entry-items.ensures.value) in
    ap (λ (ns : List ℕ). length ns) all ∙ length-map c.sort_unstable.new.self.items (λ (x : Entry). x.at)
    ∙ length_permutation c.in_ok-entries.entries.items c.sort_unstable.new.self.items c.sort_unstable.ensures.permutation
    ∙ sym (length-map c.in_ok-entries.entries.items (λ (x : Entry). x.at)) ∙ ap (λ (ns : List ℕ). length ns) c.in_ok-entries.ensures.numbers ∙ length_numbers (length c.args.rows.now)

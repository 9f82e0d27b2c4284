use Rattle.std.proofs.Common.{◌≡◌, ◌+◌, ◌-◌, ◌<◌, ℕ, [], length, get_or, Option, Some, ap, sym, subst, ◌∙◌, arith}
use Rattle.std.specs.Ordering.{is_eq}
use Rattle.std.proofs.lemmas.List.{get_or_default}
use Rattle.relations.specs.WholeOrder.{whole_row_cmp}
use Rattle.mapped.proofs.Sorting.{IsLeastTied, least_tied, least_apart, least_end, tied_from, apart_from, first_repeated_is, all_distinct, ordered_is}
use Rattle.mapped.proofs.building.first_repeated.Goals as goal
use Rattle.mapped.proofs.building.first_repeated.Goals.{then-is_eq, else-is_eq}

-- the comparison is that of the keys at two places that follow each other
compared : (c : goal.Joined-is_eq) → c.cmp_whole_row.result
    ≡ whole_row_cmp (get_or c.args.keys.now (get_or c.args.order.now (c.loop-place.place - 1) 0) []) (get_or c.args.keys.now (get_or c.args.order.now c.loop-place.place 0) [])
compared c =
    let keys = c.args.keys.now in
    let order = c.args.order.now in
    let t = c.loop-place-test.true in
    let start = c.loop-place.auto.place in
    let before = c.index-keys-order.is ∙ get_or_default keys (get_or order (c.loop-place.place - 1) 0) c.index-keys-order.result [] (c.requires.order.within (c.loop-place.place - 1) 0 (omega arith)) in
    let here = c.index-keys-at.is ∙ get_or_default keys (get_or order c.loop-place.place 0) c.index-keys-at.result [] (c.requires.order.within c.loop-place.place 0 t) in
    c.cmp_whole_row.ensures ∙ ap (λ z. whole_row_cmp z c.index-keys-at.result) before ∙ ap (whole_row_cmp (get_or keys (get_or order (c.loop-place.place - 1) 0) [])) here

pub loop-place-preserved : goal.loop-place-preserved
loop-place-preserved c =
    let keys = c.args.keys.now in
    let order = c.args.order.now in
    let place : ℕ = c.loop-place.place in
    let t = c.loop-place-test.true in
    let start = c.loop-place.auto.place in
    let one = get_or keys (get_or order (place - 1) 0) [] in
    let two = get_or keys (get_or order place 0) [] in
    let last : length order < place + 1 → place + 1 ≡ 1 = λ p. absurd (omega arith) in
    elim c.if-is_eq.branch [
      | then-is_eq w ↦ (
        subst (λ (o : Option ℕ). IsLeastTied keys order (place + 1) o) (sym (w.first-is ∙ ap Some w.earlier.ensures))
            (least_tied keys order place c.loop-place.first start c.loop-place.invariant.0
            (tied_from one two (ap is_eq (sym (compared c)) ∙ sym c.is_eq.ensures ∙ w.if-is_eq.true))),
        last,
      )
      | else-is_eq w ↦ (
        subst (λ (o : Option ℕ). IsLeastTied keys order (place + 1) o) (sym w.first-is)
            (least_apart keys order place c.loop-place.first c.loop-place.invariant.0
            (apart_from one two (ap is_eq (sym (compared c)) ∙ sym c.is_eq.ensures ∙ w.if-is_eq.false))),
        last,
      )
    ]

ended : (c : goal.After-loop-place) → IsLeastTied c.args.keys.now c.args.order.now (length c.args.order.now) c.loop-place.first
ended c = least_end c.args.keys.now c.args.order.now c.loop-place.place c.loop-place.first c.loop-place-test.false c.loop-place.invariant.1 c.loop-place.invariant.0

pub returns-clause-value : goal.returns-clause-value
returns-clause-value c = first_repeated_is c.args.keys.now c.args.order.now c.requires.order c.loop-place.first (ended c)

pub returns-clause-distinct : goal.returns-clause-distinct
returns-clause-distinct c none =
    ordered_is c.args.keys.now c.args.order.now c.requires.order (subst (λ (o : Option ℕ). IsLeastTied c.args.keys.now c.args.order.now (length c.args.order.now) o) none (ended c))

pub returns-clause-whole : goal.returns-clause-whole
returns-clause-whole c none = record {
  few = c.requires.few;
  distinct = all_distinct c.args.keys.now c.args.order.now c.requires.order
      (subst (λ (o : Option ℕ). IsLeastTied c.args.keys.now c.args.order.now (length c.args.order.now) o) none (ended c));
}

use Rattle.std.proofs.Common.{◌≡◌, ℕ, List, length, map, ap, sym, subst, ◌∙◌, arith}
use Rattle.std.specs.List.{insert}
use Rattle.std.proofs.lemmas.List.{length-map}
use Rattle.std.proofs.lemmas.List.Edits.{length-insert}
use Rattle.mk_value.specs.Data.{Datum}
use Rattle.mapped.specs.Order.{IsOrderWithout, opened}
use Rattle.mapped.proofs.Moving.{few_ordered, roomy}
use Rattle.mapped.proofs.order.insert.Goals as goal

pub enter-requires-clause-others : goal.enter-requires-clause-others
enter-requires-clause-others c =
    let keys = c.args.keys.now.items in
    let at : ℕ = c.args.at in
    let items = c.deref.ensures.value ∙ rw c.if-is_err.ensures.negation at c.insert.ensures.items in
    subst (λ (ks : List (List Datum)). IsOrderWithout at ks c.make_room.new.order.list) (sym items)
    (subst (λ (os : List ℕ). IsOrderWithout at (insert keys at c.args.key) os) (sym c.make_room.ensures.list) (roomy keys at c.args.key c.requires.there c.args.order.now.list c.requires.index.ordered))

pub enter-requires-clause-few : goal.enter-requires-clause-few
enter-requires-clause-few c =
    let few = few_ordered c.args.keys.now.items c.args.order.now.list c.requires.index.ordered.ordered in
    let long : length c.make_room.new.order.list ≡ length c.args.order.now.list = ap length c.make_room.ensures.list ∙ length-map c.args.order.now.list (opened c.args.at) in
    let whole = c.requires.whole.few in
    let more = length-insert c.args.keys.now.items c.args.at c.args.key c.requires.there in
    omega arith

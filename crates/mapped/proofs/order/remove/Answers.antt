use Rattle.std.proofs.Common.{ℕ, List, sym, subst}
use Rattle.std.specs.List.{remove}
use Rattle.mk_value.specs.Data.{Datum}
use Rattle.mapped.specs.Order.{IsIndexOf, IsOrderOf, IsOrderWithout}
use Rattle.mapped.proofs.Moving.{gapless, fewer}
use Rattle.mapped.proofs.order.remove.Goals as goal

pub returns-clause-index : goal.returns-clause-index
returns-clause-index c =
    let keys = c.args.keys.now.items in
    let order = c.leave.new.order.list in
    let at : ℕ = c.args.at in
    let others = subst (λ (ks : List (List Datum)). IsOrderWithout at ks order) c.deref.ensures.value c.leave.ensures.others in
    let ordered = gapless keys at c.requires.there order others in
    subst (λ (ks : List (List Datum)). IsIndexOf ks c.close_gap.new.order.list) (sym c.remove.ensures.items)
    (record {
      whole = fewer keys at c.requires.there c.requires.index.whole;
      ordered = subst (λ (os : List ℕ). IsOrderOf (remove keys at) os) (sym c.close_gap.ensures.list) ordered;
    })

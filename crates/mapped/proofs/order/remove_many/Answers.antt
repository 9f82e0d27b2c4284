use Rattle.std.proofs.Common.{◌+◌, ◌++◌, ℕ, List, take, drop, sym, subst}
use Rattle.mk_value.specs.Data.{Datum}
use Rattle.mapped.specs.Order.{IsIndexOf}
use Rattle.mapped.proofs.Cutting.{left_index}
use Rattle.mapped.proofs.order.remove_many.Goals as goal

pub returns-clause-index : goal.returns-clause-index
returns-clause-index c =
    let keys : List (List Datum) = c.args.keys.now.items in
    subst (λ (ks : List (List Datum)). IsIndexOf ks c.remove_positions.new.self.list) (sym c.cut_out.ensures.items)
    (subst (λ (os : List ℕ). IsIndexOf (take c.args.at keys ++ drop (c.args.at + c.args.count) keys) os) (sym c.remove_positions.ensures.list)
    (left_index keys c.args.at c.args.count c.requires.there c.args.order.now.list c.requires.index))

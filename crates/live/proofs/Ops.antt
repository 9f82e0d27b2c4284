-- The orders of watches, and how many positions they keep.
use Rattle.std.proofs.Common.{◌≡◌, ◌≤◌, List, [], length, refl, arith}
use Rattle.std.specs.declared.cmp.Ordering.TheVariants.{Less, Equal}
use Rattle.std.specs.Cmp.{IsTotalOrder}
use Rattle.mk_value.specs.Heading.{Attribute}
use Rattle.mk_value.specs.Data.{Datum}
use Rattle.relations.specs.Criteria.{is_in_range}
use Rattle.relations.specs.Sorting.{row_cmp}
use Rattle.relations.proofs.Filtering.{passing_few}
use Rattle.relations.proofs.Orders.{order_few}
use Rattle.relations.proofs.RowOrder.{row_cmp_total}
use Rattle.live.specs.Watching.{order, positions}
use Rattle.live.specs.declared.op.WatchOp.{WatchOp}
use Rattle.live.specs.declared.op.WatchOp.TheVariants.{Range, Sort}

never_less : Equal ≡ Less → ⊥
never_less e = cc

-- an order in which all tie
pub equal_total : {X : Type 0} → IsTotalOrder (λ (a b : X). Equal)
equal_total = record { antisymm = λ x y. refl; trans = λ x y z p q. absurd (never_less p); congr = λ x y z p. refl }

pub op_total : (schema : List Attribute) (op : WatchOp) → IsTotalOrder (order schema op)
op_total schema (Range criteria) = equal_total
op_total schema (Sort keys) = row_cmp_total schema keys

pub positions_few : (schema : List Attribute) (op : WatchOp) (rows : List (List Datum)) → length (positions schema op rows) ≤ length rows
positions_few schema (Range criteria) rows = passing_few (is_in_range schema criteria) [] rows
positions_few schema (Sort keys) rows = let e = order_few (row_cmp schema keys) [] rows in omega arith

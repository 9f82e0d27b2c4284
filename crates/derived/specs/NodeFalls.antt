-- Each derived table inside another has fewer layers, so that going down into them ends.
use Rattle.std.specs.Prelude.{◌≤◌}
use Rattle.std.proofs.Common.{arith}
use Rattle.mk_value.specs.declared.table.TableRead.{Ghosts}
use Rattle.derived.specs.declared.derived.Node.{Node}
use Rattle.derived.specs.declared.derived.Node.TheVariants.{Leaf, Held, Rows, Columns, Stacked, Beside}
use Rattle.derived.specs.declared.derived.Derived.TheDeep.{deep-Derived, deep-Node}
use Rattle.derived.specs.declared.derived.Derived.TheInside as derived
use Rattle.derived.specs.Nodes.{layered}

node_bound : {T : Type 0} (G : Ghosts T) (n : Node T) → deep-Node T G n ≤ (layered G.schema G.rows n).layers
node_bound G (Leaf t) = omega arith
node_bound G (Held h) = omega arith
node_bound G (Rows base positions) = omega arith
node_bound G (Columns base columns properties) = omega arith
node_bound G (Stacked first size second) = omega arith
node_bound G (Beside first second columns properties) = omega arith

pub derived_falls : {T : Type 0} (G : Ghosts T) (a : derived.Inside T) → deep-Derived T G a ≤ (layered G.schema G.rows a.node).layers
derived_falls G a = omega (arith, node_bound G a.node)

use Rattle.std.proofs.Common.{◌≡◌, ◌≤◌, length, take}
use Rattle.relations.specs.Rows.{once}
use Rattle.relations.proofs.columns.count_distinct.Given as goal

abbrev pub invariant-loop-at : goal.invariant-loop-at
invariant-loop-at l = record { few : l.count ≤ l.at; count : l.count ≡ length (once (take l.at l.names)) }

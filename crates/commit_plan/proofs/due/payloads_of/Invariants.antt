use Rattle.std.proofs.Common.{◌≡◌, map, take}
use Rattle.std.specs.List.{flat_map}
use Rattle.commit_plan.specs.Payloads.{payload_bytes}
use Rattle.commit_plan.specs.Leaves.{due_in}
use Rattle.commit_plan.proofs.due.payloads_of.Given as goal

abbrev pub invariant-leaves : goal.invariant-leaves
invariant-leaves l = map payload_bytes l.payloads.items ≡ flat_map due_in (take l.leaf-index l.leaf-items)

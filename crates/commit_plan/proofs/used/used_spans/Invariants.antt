use Rattle.std.proofs.Common.{◌≡◌, take}
use Rattle.std.specs.List.{flat_map}
use Rattle.commit_plan.proofs.ViewColumns.{leaf_spans}
use Rattle.commit_plan.proofs.used.used_spans.Given as goal

abbrev pub invariant-leaves : goal.invariant-leaves
invariant-leaves l = l.spans.items ≡ flat_map leaf_spans (take l.leaf-index l.leaf-items)

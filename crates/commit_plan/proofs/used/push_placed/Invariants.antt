use Rattle.std.proofs.Common.{◌≡◌, ◌++◌, take}
use Rattle.std.specs.List.{filter}
use Rattle.commit_plan.specs.Placing.{has_bytes}
use Rattle.commit_plan.proofs.used.push_placed.Given as goal

abbrev pub invariant-placed : goal.invariant-placed
invariant-placed l = l.spans.items ≡ l.initial.spans.items ++ filter has_bytes (take l.block-index l.fn.blocks)

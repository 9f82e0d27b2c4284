use Rattle.std.proofs.Common.{◌≡◌, ◌++◌, take}
use Rattle.std.specs.List.{filter}
use Rattle.commit_plan.specs.Placing.{has_bytes}
use Rattle.commit_plan.proofs.used.push_spans.Given as goal

abbrev pub invariant-more : goal.invariant-more
invariant-more l = l.spans.items ≡ l.initial.spans.items ++ filter has_bytes (take l.span-index l.fn.more)

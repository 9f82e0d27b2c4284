use Rattle.std.proofs.Common.{length, map, take}
use Rattle.commit_plan.specs.Payloads.{payload_bytes}
use Rattle.commit_plan.specs.Placing.{ArePut}
use Rattle.commit_plan.proofs.placing.place_all.Given as goal

abbrev pub invariant-payloads : goal.invariant-payloads
invariant-payloads l = ArePut (take l.payload-index (map (λ p. length (payload_bytes p)) l.payloads)) l.initial.free l.free l.spans.items

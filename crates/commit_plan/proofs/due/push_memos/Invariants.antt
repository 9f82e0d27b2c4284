use Rattle.std.proofs.Common.{◌≡◌, ◌++◌, map, take}
use Rattle.bytes_col.specs.Strings.{long_values}
use Rattle.commit_plan.specs.Payloads.{payload_bytes}
use Rattle.commit_plan.proofs.due.push_memos.Given as goal

abbrev pub invariant-rows : goal.invariant-rows
invariant-rows l = map payload_bytes l.payloads.items ≡ map payload_bytes l.initial.payloads.items ++ long_values (take l.row l.fn.column.values)

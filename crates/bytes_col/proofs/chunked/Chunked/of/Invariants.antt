use Rattle.std.proofs.Common.{◌≡◌, map, take}
use Rattle.bytes_col.specs.Parts.{added}
use Rattle.bytes_col.proofs.chunked.Chunked.of.Given as goal

abbrev pub invariant-loop-value : goal.invariant-loop-value
invariant-loop-value l = added l.parts ≡ map (λ v. v.bytes) (take l.value-index l.values)

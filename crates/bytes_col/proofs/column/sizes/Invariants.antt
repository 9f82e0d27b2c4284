use Rattle.std.proofs.Common.{◌≡◌, map, take}
use Rattle.bytes_col.specs.Strings.{sizes_of}
use Rattle.bytes_col.proofs.column.sizes.Given as goal

abbrev pub invariant-loop-value : goal.invariant-loop-value
invariant-loop-value l = l.sizes.items ≡ sizes_of (map (λ v. v.bytes) (take l.value-index l.values))

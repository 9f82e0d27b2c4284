use Rattle.std.proofs.Common.{◌≡◌, length, take}
use Rattle.bytes_col.specs.Strings.{short_bytes}
use Rattle.segments.specs.Joined.{joined}
use Rattle.bytes_col.proofs.spine.Spine.short_len.Given as goal

abbrev pub invariant-loop-k : goal.invariant-loop-k
invariant-loop-k l = l.total ≡ length (short_bytes (joined (take l.k l.self)))

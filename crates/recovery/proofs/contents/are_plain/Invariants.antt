use Rattle.std.proofs.Common.{◌≡◌, ℕ, ◌<◌, get_or, true}
use Rattle.recovery.specs.Contents.{IsPlainByte}
use Rattle.recovery.proofs.contents.are_plain.Given as goal

abbrev pub invariant-loop-byte : goal.invariant-loop-byte
invariant-loop-byte l = l.plain ≡ true → (k : ℕ) → k < l.byte-index → IsPlainByte (get_or l.bytes k 0)

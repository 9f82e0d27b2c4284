use Rattle.std.proofs.Common.{◌≡◌, map, take}
use Rattle.recovery.proofs.strings.home_of.Given as goal

abbrev pub invariant-loop-memo : goal.invariant-loop-memo
invariant-loop-memo l = l.spans ≡ map (λ m. m.span) (take l.memo-index l.memos)

use Rattle.std.proofs.Common.{◌≡◌, take}
use Rattle.recovery.specs.Commits.{memos_at}
use Rattle.commit_plan.proofs.entries.memos_of.Given as goal

abbrev pub invariant-memos : goal.invariant-memos
invariant-memos l = l.memos ≡ take l.at (memos_at l.fn.rows l.fn.spans)

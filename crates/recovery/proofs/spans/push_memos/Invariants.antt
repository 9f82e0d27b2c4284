use Rattle.std.proofs.Common.{◌≡◌, ◌++◌, drop}
use Rattle.recovery.specs.Spans.{memo_spans, some_spans}
use Rattle.recovery.proofs.spans.push_memos.Given as goal

-- the spans so far, with those to come, are all
abbrev pub invariant-loop-memo : goal.invariant-loop-memo
invariant-loop-memo l = l.spans.items ++ some_spans (memo_spans (drop l.memo-index l.memos)) ≡ l.fn.spans.items ++ some_spans (memo_spans l.memos)

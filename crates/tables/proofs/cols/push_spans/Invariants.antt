use Rattle.std.proofs.Common.{◌≡◌, ◌++◌, take}
use Rattle.tables.proofs.cols.push_spans.Given as goal

-- the blocks of the spans so far stand behind those that were there
abbrev pub invariant-loop-span : goal.invariant-loop-span
invariant-loop-span l = l.blocks.items ≡ l.fn.blocks.items ++ take l.span-index l.spans

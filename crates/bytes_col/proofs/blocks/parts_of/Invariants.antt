use Rattle.std.proofs.Common.{◌≤◌, length, take}
use Rattle.bytes_col.specs.Parts.{added}
use Rattle.bytes_col.specs.Blocks.{AreBlocks}
use Rattle.bytes_col.proofs.blocks.parts_of.Given as goal

abbrev pub invariant-loop-at : goal.invariant-loop-at
invariant-loop-at l = record {
  so_far : AreBlocks (added l.parts) (take l.at l.sizes.values) (take l.next.byte l.short) (take l.next.memo l.memos);
  byte : l.next.byte ≤ length l.short;
  memo : l.next.memo ≤ length l.memos;
}

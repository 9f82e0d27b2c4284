use Rattle.std.proofs.Common.{◌≡◌, ◌++◌, drop, length}
use Rattle.byteorder.specs.Endian.{little_bytes}
use Rattle.dir_codec.specs.Parts.{spelled_memos}
use Rattle.dir_codec.proofs.writing.write_memos.Given as goal

-- what is written, with what the memos to come are spelled as, is what all are
abbrev pub invariant-loop-memo : goal.invariant-loop-memo
invariant-loop-memo l = l.out.bytes ++ spelled_memos (drop l.memo-index l.memo-items) ≡ l.fn.out.bytes ++ (little_bytes 4 (length l.memo-items) ++ spelled_memos l.memo-items)

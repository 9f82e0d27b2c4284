use Rattle.dir_codec.proofs.MemoLists.{AreRead}
use Rattle.dir_codec.proofs.columns.read_memos.Given as goal

-- the memos so far lead to those that are still due
abbrev pub invariant-loop-done : goal.invariant-loop-done
invariant-loop-done l = AreRead l.end l.bytes l.count l.rows l.at l.memos l.done l.least l.place

use Rattle.dir_codec.proofs.NoteLists.{AreRead}
use Rattle.dir_codec.proofs.notes.read_notes.Given as goal

-- the notes so far lead to those that are still due
abbrev pub invariant-loop-done : goal.invariant-loop-done
invariant-loop-done l = AreRead l.number l.bytes l.count l.at l.notes l.done l.last l.place

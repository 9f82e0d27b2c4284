use Rattle.dir_codec.proofs.ViewLists.{AreRead}
use Rattle.dir_codec.proofs.views.read_views.Given as goal

-- the views so far lead to those that are still due
abbrev pub invariant-loop-done : goal.invariant-loop-done
invariant-loop-done l = AreRead l.end l.bytes l.count l.views l.done l.place

use Rattle.watches.specs.Groups.{Notes}
use Rattle.watches.proofs.Stepping.{AreDone}
use Rattle.watches.proofs.listed.note_all.Given as goal

abbrev pub invariant-loop-watches : goal.invariant-loop-watches
invariant-loop-watches l = AreDone (Notes l.view l.rows.schema l.rows.rows l.edit) l.fn.list l.list l.watches-index

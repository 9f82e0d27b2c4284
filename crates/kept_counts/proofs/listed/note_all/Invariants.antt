use Rattle.kept_counts.specs.Following.{Notes}
use Rattle.kept_counts.proofs.Stepping.{AreDone}
use Rattle.kept_counts.proofs.listed.note_all.Given as goal

abbrev pub invariant-loop-entry : goal.invariant-loop-entry
invariant-loop-entry l = AreDone (Notes l.view l.rows.schema l.rows.rows l.edit) l.fn.list l.list l.entry-index

use Rattle.std.proofs.Common.{◌≡◌, drop}
use Rattle.row_edits.specs.Edits.{AreInRange, size_by}
use Rattle.row_edits.proofs.origin.size_by.Given as goal

abbrev pub invariant-loop-edit : goal.invariant-loop-edit
invariant-loop-edit l = AreInRange (drop l.edit-index l.edits) l.rows × (size_by (drop l.edit-index l.edits) l.rows ≡ size_by l.edits l.fn.size)

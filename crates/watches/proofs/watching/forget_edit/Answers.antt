use Rattle.std.proofs.Common.{arith}
use Rattle.watches.proofs.watching.forget_edit.Goals as goal

pub note_edit-requires-clause-range : goal.note_edit-requires-clause-range
note_edit-requires-clause-range g c = omega arith

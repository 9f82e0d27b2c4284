use Rattle.std.proofs.Common.{refl}
use Rattle.cmd_text.proofs.Noting.{no_note_meets, note_fails, note_meets}
use Rattle.expr_text.proofs.Running.{none_first, some_first}
use Rattle.cmd_text.proofs.arguments.note.Goals as goal

pub returns-in_default-clause-meets : goal.returns-in_default-clause-meets
returns-in_default-clause-meets c = no_note_meets _ _ (none_first _ c.in_default.ensures.value)

pub returns-in_default-2-clause-fails : goal.returns-in_default-2-clause-fails
returns-in_default-2-clause-fails c = note_fails _ _ _ (some_first _ _ c.in-Some.ensures.value) ((rw c.in_default-2.is at c.in_ok-note.ensures.none) refl)

pub returns-clause-meets : goal.returns-clause-meets
returns-clause-meets c =
    let some = rw c.in-Some-2.is at c.in_ok-note.ensures.some in
    note_meets _ _ _ _ (some_first _ _ c.in-Some.ensures.value) some.0 some.1

use Rattle.std.proofs.Common.{◌≡◌, map, take}
use Rattle.dir_codec.specs.Values.{note_of}
use Rattle.commit_plan.proofs.notes.copy_notes.Given as goal

abbrev pub invariant-notes : goal.invariant-notes
invariant-notes l = map note_of l.copy ≡ map note_of (take l.note-index l.fn.notes)

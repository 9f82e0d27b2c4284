use Rattle.std.proofs.Common.{◌≡◌, ◌++◌, drop, map, reverse}
use Rattle.cmd_text.specs.Replies.{contents}
use Rattle.dir_codec.specs.Values.{note_of}
use Rattle.session.specs.Commands.{note_text}
use Rattle.session.proofs.looks.note_texts.Given as goal

-- the texts so far, with those of the notes to come, are those of all notes, the last first
abbrev pub invariant-loop-at : goal.invariant-loop-at
invariant-loop-at l = contents l.texts ++ map note_text (drop l.at (reverse (map note_of l.notes))) ≡ map note_text (reverse (map note_of l.notes))

use Rattle.std.proofs.Common.{List, refl, map}
use Rattle.std.specs.List.{flat_map}
use Rattle.dir_codec.specs.declared.dir.Note.{Note}
use Rattle.dir_codec.specs.Dir.{spelled_note}
use Rattle.dir_codec.specs.Values.{note_of}
use Rattle.dir_codec.proofs.Written.{one_more}
use Rattle.dir_codec.proofs.writing.write_notes.Goals as goal

pub loop-note-preserved : goal.loop-note-preserved
loop-note-preserved c = one_more (λ (n : Note). spelled_note (note_of n)) (λ (notes : List Note). flat_map spelled_note (map note_of notes)) (λ x xs. refl) c.as_slice-note-items.result.now c.loop-note.note-index c.note-item.result _
    c.loop-note.out.bytes c.write_note.new.out.bytes c.loop-note-test.true c.note-item.is c.loop-note.invariant c.in_ok-write_note.ensures

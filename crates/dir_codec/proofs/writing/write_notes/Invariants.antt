use Rattle.std.proofs.Common.{◌≡◌, ◌++◌, drop, length, map}
use Rattle.std.specs.List.{flat_map}
use Rattle.byteorder.specs.Endian.{little_bytes}
use Rattle.dir_codec.specs.Dir.{spelled_note}
use Rattle.dir_codec.specs.Values.{note_of}
use Rattle.dir_codec.proofs.writing.write_notes.Given as goal

-- what is written, with what the notes to come are spelled as, is what all are
abbrev pub invariant-loop-note : goal.invariant-loop-note
invariant-loop-note l =
    l.out.bytes ++ flat_map spelled_note (map note_of (drop l.note-index l.note-items)) ≡ l.fn.out.bytes ++ (little_bytes 4 (length l.note-items) ++ flat_map spelled_note (map note_of l.note-items))

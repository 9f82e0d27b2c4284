-- What a directory of the program means.
use Rattle.std.specs.Prelude.{map}
use Rattle.dir_codec.specs.declared.dir.DirCol.{DirCol}
use Rattle.dir_codec.specs.declared.dir.DirCol.TheVariants.{Ints, Blobs, Views}
use Rattle.dir_codec.specs.declared.dir.DirBody.{DirBody}
use Rattle.dir_codec.specs.declared.dir.Note.{Note}
use Rattle.dir_codec.specs.declared.dir.DirView.{DirView}
use Rattle.dir_codec.specs.declared.dir.Dir.{Dir as Directory}
use Rattle.dir_codec.specs.Dir.{Dir, Entry, Body, NoteEntry, ViewEntry, bodies_from, entries_from}

abbrev pub entry_of : DirCol → Entry
entry_of (Ints w span) = Entry.numbers w span
entry_of (Blobs w sizes short memos) = Entry.strings w sizes short memos
entry_of (Views bodies) = Entry.tables (bodies_from bodies)

abbrev pub body_of : DirBody → Body
body_of b = record { rows = b.rows; columns = b.cols }

abbrev pub note_of : Note → NoteEntry
note_of n = record { number = n.number; text = n.text.bytes }

abbrev pub view_of : DirView → ViewEntry
view_of v = record { name = v.name; schema = v.schema; rows = v.body.rows; columns = entries_from v.body.cols }

abbrev pub dir_of : Directory → Dir
dir_of d = record { views = map view_of d.views; notes = map note_of d.notes }

-- What the entries of a log stand for.
use Rattle.std.specs.Prelude.{◌≡◌, ◌≢◌, ℕ, ◌+◌, ◌-◌, ◌<◌, ◌≤◌, List, [], ◌∷◌, length, take, drop, Vec, vec_capacity}
use Rattle.std.specs.declared.alloc.Global.{Global}
use Rattle.host_io.specs.Disk.{DiskState, settled, IsSound}
use Rattle.host_io.specs.Outside.{Moment}
use Rattle.host_io.specs.Memory.{Trail, History, written, extended, IsLeft}
use Rattle.host_io.specs.declared.fault.Effect.{Effect}
use Rattle.host_io.specs.declared.fault.Effect.TheVariants.{Nothing}
use Rattle.host_io.specs.declared.entry.Piece.{Piece}
use Rattle.host_io.specs.declared.entry.Event.{Event}
use Rattle.host_io.specs.declared.entry.Event.TheVariants.{Write, Sync, Say}
use Rattle.host_io.specs.declared.entry.Entry.{Entry}

-- the bytes of a write, among all that was written
abbrev pub piece_bytes : List ℕ → Piece → List ℕ
piece_bytes all piece = take piece.count (drop piece.from all)

-- the disk after an event, of all the bytes that were written
abbrev pub disk_after : List ℕ → Event → DiskState → DiskState
disk_after all (Write piece) disk = written piece.left piece.at (piece_bytes all piece) disk
disk_after all Sync disk = settled disk.seen
disk_after all (Say end) disk = disk

-- the bytes said after an event, of all that were
abbrev pub said_after : List ℕ → Event → List ℕ → List ℕ
said_after all (Say end) said = take end all
said_after all (Write piece) said = said
said_after all Sync said = said

abbrev pub next_moment : List ℕ → List ℕ → Event → Moment → Moment
next_moment all all_said event moment = record { disk = disk_after all event moment.disk; said = said_after all_said event moment.said }

-- a trail after these entries
abbrev pub replayed : List ℕ → List ℕ → Trail → List Entry → Trail
replayed all all_said trail [] = trail
replayed all all_said trail (entry ∷ entries) =
    replayed all all_said (extended entry.calls (next_moment all all_said entry.event trail.latest.moment) trail) entries

-- the disk after these entries
abbrev pub disk_at : List ℕ → DiskState → List Entry → DiskState
disk_at all disk [] = disk
disk_at all disk (entry ∷ entries) = disk_at all (disk_after all entry.event disk) entries

-- before the first call
abbrev pub first_trail : List ℕ → Trail
first_trail image = record { latest = record { calls = 0; moment = record { disk = settled image; said = [] } }; earlier = [] }

-- a write's bytes are there, and it began within the file
abbrev pub WriteFits : List ℕ → DiskState → Event → Type 0
WriteFits all disk (Write piece) = (piece.from + piece.count ≤ length all) × (piece.at ≤ length disk.seen)
WriteFits all disk Sync = Unit {0}
WriteFits all disk (Say end) = Unit {0}

abbrev pub WritesFit : List ℕ → DiskState → List Entry → Type 0
WritesFit all disk [] = Unit {0}
WritesFit all disk (entry ∷ entries) = WriteFits all disk entry.event × WritesFit all (disk_after all entry.event disk) entries

-- the bytes of a piece said are there
abbrev pub SayFits : List ℕ → Event → Type 0
SayFits all_said (Say end) = end ≤ length all_said
SayFits all_said (Write piece) = Unit {0}
SayFits all_said Sync = Unit {0}

abbrev pub SaysFit : List ℕ → List Entry → Type 0
SaysFit all_said [] = Unit {0}
SaysFit all_said (entry ∷ entries) = SayFits all_said entry.event × SaysFit all_said entries

-- the history that a log with so much room stands for
abbrev pub history_of : List ℕ → List ℕ → List ℕ → List Entry → ℕ → History
history_of image all all_said entries room = record {
  trail = replayed all all_said (first_trail image) entries;
  moments_left = room - length entries;
  bytes_left = room - (length all + length all_said);
}

-- A log tells the truth, and its room is there: for the entries, for their bytes, and for the file if all of them go past its end.
pub record IsLog (image seen all said : Vec ℕ Global) (entries : Vec Entry Global) (room : ℕ) : Type 0 where
  pub writes : WritesFit all.items (settled image.items) entries.items
  pub says : SaysFit said.items entries.items
  pub is_seen : (replayed all.items said.items (first_trail image.items) entries.items).latest.moment.disk.seen ≡ seen.items
  pub is_said : (replayed all.items said.items (first_trail image.items) entries.items).latest.moment.said ≡ said.items
  pub moments : length entries.items ≤ room
  pub bytes : length all.items + length said.items ≤ room
  pub entries_room : room ≤ vec_capacity entries
  pub all_room : room ≤ vec_capacity all
  pub said_room : room ≤ vec_capacity said
  pub seen_room : length seen.items + (room - (length all.items + length said.items)) ≤ vec_capacity seen

-- each of these entries came after so many calls
abbrev pub AreLater : ℕ → List Entry → Type 0
AreLater calls [] = Unit {0}
AreLater calls (entry ∷ entries) = (calls < entry.calls) × AreLater calls entries

-- the file as a read gives it and as a crash leaves it, of a disk whose pending ranges it leaves so
pub record IsRedone (choice : Effect) (disk : DiskState) (seen image : List ℕ) : Type 0 where
  pub seen_is : seen ≡ disk.seen
  pub left : IsLeft choice disk image
  pub sound : IsSound disk

-- an event's bytes are there, and a write begins within both files, or within the first where the other ignores it
abbrev pub CanRedo : Effect → List ℕ → ℕ → ℕ → Event → Type 0
CanRedo choice all seen_len image_len (Write piece) =
    (piece.from + piece.count ≤ length all) × (piece.at ≤ seen_len) × (choice ≢ Nothing → piece.at ≤ image_len)
CanRedo choice all seen_len image_len Sync = Unit {0}
CanRedo choice all seen_len image_len (Say end) = Unit {0}

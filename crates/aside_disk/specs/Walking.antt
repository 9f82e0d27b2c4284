-- A walk over the records of a log.
use Rattle.std.specs.Prelude.{◌≡◌, ℕ, ◌+◌, ◌-◌, ◌^◌, ◌<◌, ◌≤◌, ◌⊎◌, List, ◌++◌, length, take, max, Option, Some, None}
use Rattle.byteorder.specs.Endian.{little_bytes}
use Rattle.host_io.specs.Ranges.{bytes_in}
use Rattle.free_space.specs.Extents.{IsAligned}
use Rattle.aside_disk.specs.declared.walking.Head.{Head}
use Rattle.aside_disk.specs.declared.walking.Piece.{Piece}
use Rattle.aside_disk.specs.declared.walking.Record.{Record}
use Rattle.aside_disk.specs.declared.walking.Walk.{Walk}
use Rattle.aside_disk.specs.Records.{Entry, Fit, IsRecordAt, Spells, grown, record_len}
use Rattle.aside_disk.specs.Logical.{records_range}

-- a place among the records of a log that ends there
pub record IsWalk (at end : ℕ) : Type 0 where
  pub behind : 256 ≤ at
  pub within : at ≤ end
  pub fits : end < 2 ^ 63
  pub aligned : IsAligned (end - at)

pub record IsPiece (piece : Piece) : Type 0 where
  pub short : piece.count ≤ 4096
  pub fits : piece.place < 2 ^ 63

-- the piece holds bytes of the image
pub record HasPiece (image : List ℕ) (piece : Piece) : Type 0 where
  pub long : piece.place + piece.count ≤ length image
  pub bytes : take piece.count piece.bytes ≡ bytes_in image (record { start = piece.place; count = piece.count })

-- the 16 bytes of the head stand here
pub record IsHeadAt (image : List ℕ) (at : ℕ) (head : Head) : Type 0 where
  pub place_fits : head.place < 2 ^ 64
  pub len_fits : head.len < 2 ^ 64
  pub bytes : bytes_in image (record { start = at; count = 16 }) ≡ little_bytes 8 head.place ++ little_bytes 8 head.len

-- a record with this head is whole before the end of the log, and may be put into a file of this length
pub record Passes (head : Head) (at end len : ℕ) : Type 0 where
  pub some : 0 < head.len
  pub within : head.place ≤ len
  pub bound : head.place + head.len < 2 ^ 63
  pub inside : at + record_len head.len ≤ end

pub record AreBounded (found : Record) : Type 0 where
  pub file : found.place + found.len < 2 ^ 63
  pub log : found.from + found.len < 2 ^ 63

-- what was found is this record
pub record IsOf (found : Record) (at : ℕ) (entry : Entry) : Type 0 where
  pub place : found.place ≡ entry.place
  pub len : found.len ≡ length entry.bytes
  pub from : found.from ≡ at + 16

-- A walk goes over one record, or it stays at the end of the log or where no record stands.
abbrev pub Steps : List ℕ → Walk → Walk → Option Record → Type 0
Steps image old new None = (new.at ≡ old.at) × (new.len ≡ old.len)
    × ((old.at ≡ old.end) ⊎ ((old.at < old.end) × ((entry : Entry) → ¬ IsRecordAt image old.end old.at old.len entry)))
Steps image old new (Some found) = (entry : Entry) × IsRecordAt image old.end old.at old.len entry × IsOf found old.at entry
    × (new.at ≡ old.at + record_len (length entry.bytes)) × (new.len ≡ max old.len (entry.place + length entry.bytes))

-- the records before this place of a log, and how long the file is with them
pub record Walked (image : List ℕ) (start at len : ℕ) (before : List Entry) : Type 0 where
  pub spells : Spells before (bytes_in image (records_range at))
  pub fit : Fit start before
  pub len_is : len ≡ grown start before

-- A piece of a file that is filled layer by layer.
use Rattle.std.specs.Prelude.{◌≡◌, ℕ, ◌+◌, ◌<◌, List, length, slice_index}
use Rattle.host_io.specs.Ranges.{bytes_in}
use Rattle.aside_disk.specs.declared.walking.Record.{Record}
use Rattle.aside_disk.specs.Records.{Entry}

-- the piece has the bytes of the file from here on, as far as the file goes
abbrev pub Covers : List ℕ → ℕ → List ℕ → Type 0
Covers file at piece = (k : ℕ) → k < length piece → at + k < length file → slice_index piece k ≡ slice_index file (at + k)

-- what was found is this record, whose bytes stand in the image
pub record IsFound (image : List ℕ) (found : Record) (entry : Entry) : Type 0 where
  pub place : found.place ≡ entry.place
  pub len : found.len ≡ length entry.bytes
  pub bytes : bytes_in image (record { start = found.from; count = length entry.bytes }) ≡ entry.bytes

-- The records of a log, and what they leave of a file.
use Rattle.std.specs.Prelude.{◌≡◌, ℕ, zero, suc, ◌+◌, ◌*◌, ◌/◌, ◌^◌, ◌<◌, ◌≤◌, List, [], ◌∷◌, ◌++◌, length, take, drop, max}
use Rattle.byteorder.specs.Endian.{little_bytes, little_number}
use Rattle.host_io.specs.Calls.{put_bytes}
use Rattle.host_io.specs.Ranges.{bytes_in}

-- bytes, and the place in the file at which they are put
pub record Entry : Type 0 where
  pub place : ℕ
  pub bytes : List ℕ

-- how many bytes a record has, of so many bytes of content: 16 before them, and a filling up to a multiple of 16
abbrev pub record_len : ℕ → ℕ
record_len n = (n + 31) / 16 * 16

abbrev pub head_bytes : Entry → List ℕ
head_bytes entry = little_bytes 8 entry.place ++ little_bytes 8 (length entry.bytes)

-- These bytes are the records, one after another. The filling of each may be anything.
abbrev pub Spells : List Entry → List ℕ → Type 0
Spells [] log = log ≡ []
Spells (entry ∷ entries) log =
    (fill : List ℕ) × (rest : List ℕ) × (log ≡ head_bytes entry ++ (entry.bytes ++ (fill ++ rest)))
    × (16 + (length entry.bytes + length fill) ≡ record_len (length entry.bytes)) × Spells entries rest

-- the file after the records were put into it, one after another
abbrev pub applied : List ℕ → List Entry → List ℕ
applied file [] = file
applied file (entry ∷ entries) = applied (put_bytes file entry.place entry.bytes) entries

-- how long a file of this length is after that
abbrev pub grown : ℕ → List Entry → ℕ
grown len [] = len
grown len (entry ∷ entries) = grown (max len (entry.place + length entry.bytes)) entries

-- The record may be put into a file of this length: it has a byte at least, begins within the file or at its end, and ends within
-- 2^63 - 1.
pub record Fits (len : ℕ) (entry : Entry) : Type 0 where
  pub some : 0 < length entry.bytes
  pub within : entry.place ≤ len
  pub bound : entry.place + length entry.bytes < 2 ^ 63

-- Each record may be put into the file as it is then.
abbrev pub Fit : ℕ → List Entry → Type 0
Fit len [] = Unit {0}
Fit len (entry ∷ entries) = Fits len entry × Fit (max len (entry.place + length entry.bytes)) entries

-- A record stands at this place of a log that ends there, whole, and may be put into a file of this length.
pub record IsRecordAt (image : List ℕ) (end place len : ℕ) (entry : Entry) : Type 0 where
  pub fits : Fits len entry
  pub inside : place + record_len (length entry.bytes) ≤ end
  pub bytes : bytes_in image (record { start = place; count = 16 + length entry.bytes }) ≡ head_bytes entry ++ entry.bytes

-- the records that these bytes spell, at most so many of them
abbrev pub parsed : ℕ → List ℕ → List Entry
parsed zero log = []
parsed (suc most) [] = []
parsed (suc most) (byte ∷ log) =
    (record { place = little_number 8 (byte ∷ log); bytes = take (little_number 8 (drop 8 (byte ∷ log))) (drop 16 (byte ∷ log)) })
    ∷ parsed most (drop (record_len (little_number 8 (drop 8 (byte ∷ log)))) (byte ∷ log))

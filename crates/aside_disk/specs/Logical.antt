-- What an aside file stands for, over a base.
use Rattle.std.specs.Prelude.{◌≡◌, ℕ, ◌+◌, ◌-◌, ◌^◌, ◌<◌, ◌≤◌, List, ◌∷◌, ◌++◌, length, replicate, Option}
use Rattle.byteorder.specs.Endian.{little_bytes}
use Rattle.host_io.specs.Disk.{Range}
use Rattle.host_io.specs.Ranges.{bytes_in}
use Rattle.free_space.specs.Extents.{IsAligned}
use Rattle.commit_marks.specs.declared.mark.Mark.{Mark}
use Rattle.commit_marks.specs.Marks.{Chooses}
use Rattle.aside_disk.specs.declared.error.BaseRecord.{BaseRecord}
use Rattle.aside_disk.specs.Records.{Entry, Spells, Fit, applied, parsed}

-- `MKASIDE` and a zero, the base's length and its number, and 40 zeros
abbrev pub base_bytes : BaseRecord → List ℕ
base_bytes kept = 77 ∷ 75 ∷ 65 ∷ 83 ∷ 73 ∷ 68 ∷ 69 ∷ 0 ∷ (little_bytes 8 kept.length ++ (little_bytes 8 kept.number ++ replicate 40 0))

abbrev pub base_range : Range
base_range = record { start = 192; count = 64 }

-- The log of the image begins with this record of a base.
pub record IsBased (kept : BaseRecord) (image : List ℕ) : Type 0 where
  pub length_fits : kept.length < 2 ^ 64
  pub number_fits : kept.number < 2 ^ 64
  pub bytes : bytes_in image base_range ≡ base_bytes kept

-- what a log keeps of a base
abbrev pub record_of : List ℕ → ℕ → BaseRecord
record_of base number = record { length = length base; number = number }

-- where the records of a log that ends here stand
abbrev pub records_range : ℕ → Range
records_range end = record { start = 256; count = end - 256 }

-- the mark of a log, which is the whole of the file behind the slots
pub record IsLogMark (m : Mark) : Type 0 where
  pub version : m.version ≡ 1
  pub place : m.place ≡ 192
  pub aligned : IsAligned m.len
  pub based : 64 ≤ m.len
  pub end : m.end ≡ 192 + m.len
  pub bound : m.end < 2 ^ 63

-- The image is an aside file of the base with this record: the log of its chosen mark begins with it, and holds these records.
pub record HasLog (kept : BaseRecord) (image : List ℕ) (slot : ℕ) (chosen : Mark) (other : Option Mark) (entries : List Entry) : Type 0 where
  pub chooses : Chooses image slot chosen other
  pub within : chosen.end ≤ length image
  pub mark : IsLogMark chosen
  pub based : IsBased kept image
  pub spells : Spells entries (bytes_in image (records_range chosen.end))
  pub fit : Fit kept.length entries

-- The image is an aside file of this base, and stands for this file: the base with the records of its log put into it in order.
pub record Logical (base : List ℕ) (number : ℕ) (image file : List ℕ) : Type 0 where
  pub slot : ℕ
  pub chosen : Mark
  pub other : Option Mark
  pub entries : List Entry
  pub has : HasLog (record_of base number) image slot chosen other entries
  pub file_is : file ≡ applied base entries

-- the records of the log that ends here
abbrev pub entries_of : List ℕ → ℕ → List Entry
entries_of image end = parsed (length (bytes_in image (records_range end))) (bytes_in image (records_range end))

-- The image is an aside file of a base with this record.
pub record IsAsideOf (kept : BaseRecord) (image : List ℕ) : Type 0 where
  pub slot : ℕ
  pub chosen : Mark
  pub other : Option Mark
  pub entries : List Entry
  pub has : HasLog kept image slot chosen other entries

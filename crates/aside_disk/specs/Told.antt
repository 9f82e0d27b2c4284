-- What is known of an aside disk between two calls, where its lower disk tells its bytes.
use Rattle.std.specs.Prelude.{◌≡◌, ℕ, ◌+◌, ◌-◌, ◌^◌, ◌<◌, ◌≤◌, ◌⊎◌, true, List, [], ◌∷◌, ◌++◌, length}
use Rattle.host_io.specs.Disk.{DiskState, IsImage}
use Rattle.host_io.specs.Outside.{Outside}
use Rattle.host_io.specs.Calls.{put_bytes}
use Rattle.host_io.specs.Ranges.{bytes_in}
use Rattle.free_space.specs.Extents.{IsAligned}
use Rattle.commit_marks.specs.declared.mark.Mark.{Mark}
use Rattle.aside_disk.specs.declared.error.BaseRecord.{BaseRecord}
use Rattle.aside_disk.specs.declared.log.Log.{Log}
use Rattle.aside_disk.specs.Records.{Entry, Spells, Fit, applied}
use Rattle.aside_disk.specs.Logical.{Logical, record_of, records_range}
use Rattle.aside_disk.specs.Phases.{IsInPhase, IsNext}
use Rattle.aside_disk.specs.Committing.{IsBehind}
use Rattle.aside_disk.specs.Tie.{Tie}
use Rattle.aside_disk.specs.Shown.{Seen, bare}

-- a crash may leave the file, and each file that the records make of it one after another
abbrev pub EachFile : DiskState → List ℕ → List Entry → Type 0
EachFile disk file [] = IsImage disk file
EachFile disk file (entry ∷ entries) = IsImage disk file × EachFile disk (put_bytes file entry.place entry.bytes) entries

-- the records of a log that ends here
pub record Ends (chosen : Mark) (end : ℕ) (entries : List Entry) (seen : List ℕ) : Type 0 where
  pub based : 256 ≤ chosen.end
  pub longer : chosen.end ≤ end
  pub long : end ≤ length seen
  pub spells : Spells entries (bytes_in seen (records_range end))

-- A sync began and none succeeded since. By this mark the first of the records behind the log are being committed, and it is not known
-- how far that came.
pub record IsHalfway (kept : BaseRecord) (log : Log) (old more : List Entry) (disk : DiskState) : Type 0 where
  pub unsure : log.unsure ≡ true
  pub next : Mark
  pub done : List Entry
  pub left : List Entry
  pub parts : more ≡ done ++ left
  pub follows : IsNext kept log.marks.chosen next old done
  pub reach : next.end ≤ log.end
  pub phase : IsInPhase kept log.marks.slot log.marks.chosen next log.marks.other old done disk

-- The log of the chosen mark has the old records, and more stand behind it. The upper disk shows the base with all of them, and each
-- file on the way from the old ones to all of them is one that a crash may leave of it.
pub record Told (base : List ℕ) (number : ℕ) (log : Log) (lower upper : DiskState) : Type 0 where
  pub old : List Entry
  pub more : List Entry
  pub seen : upper.seen ≡ applied base (old ++ more)
  pub files : EachFile upper (applied base old) more
  pub fit : Fit (length base) (old ++ more)
  pub low : log.marks.slot ≤ 1
  pub lies : IsBehind (record_of base number) log.marks.slot log.marks.chosen log.marks.other old lower ⊎ IsHalfway (record_of base number) log old more lower
  pub ends : Ends log.marks.chosen log.end (old ++ more) lower.seen

-- what is known where the lower disk tells its bytes
pub record IsTold (base : List ℕ) (number : ℕ) (log : Log) (lower_since upper_since : ℕ) (lower : Outside) (seen : Seen) : Type 0 where
  pub tie : Tie (Logical base number) lower_since upper_since lower (bare seen)
  pub told : Told base number log lower.now.disk seen.now.disk
  pub len_is : log.len ≡ length seen.now.disk.seen

-- what a log keeps over any disk
pub record IsWell (log : Log) : Type 0 where
  pub low : log.marks.slot ≤ 1
  pub number_fits : log.marks.chosen.number < 2 ^ 63
  pub based : 256 ≤ log.end
  pub aligned : IsAligned (log.end - 192)
  pub end_fits : log.end < 2 ^ 63
  pub len_fits : log.len < 2 ^ 63

-- No commit can follow: the last number is reached, or base and aside file are so long that a record more might not fit.
abbrev pub IsSpent : ℕ → ℕ → ℕ → Type 0
IsSpent number base_len file_len = (number ≡ 2 ^ 63 - 1) ⊎ (2 ^ 63 - 8192 < base_len + file_len)

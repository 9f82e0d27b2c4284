-- The phases of a sync: what was written since the last sync of the lower disk, and over which bytes.
use Rattle.std.specs.Prelude.{◌≡◌, ℕ, ◌<◌, ◌≤◌, List, [], ◌∷◌, ◌++◌, length, Option, Some, None}
use Rattle.host_io.specs.Disk.{DiskState, Range}
use Rattle.host_io.specs.Ranges.{WritesOnly, bytes_in}
use Rattle.commit_marks.specs.declared.mark.Mark.{Mark}
use Rattle.commit_marks.specs.Marks.{IsMark, IsOpen, body_bytes, body_range, gate_range, other_slot}
use Rattle.aside_disk.specs.declared.error.BaseRecord.{BaseRecord}
use Rattle.aside_disk.specs.Records.{Entry, Spells, Fit}
use Rattle.aside_disk.specs.Logical.{HasLog, IsLogMark, records_range}

-- some bytes from here on
abbrev pub tail_range : ℕ → ℕ → Range
tail_range end reach = record { start = end; count = reach }

-- The next log: its mark may follow the chosen one, and its records are those of the old log and these.
pub record IsNext (kept : BaseRecord) (chosen next : Mark) (old more : List Entry) : Type 0 where
  pub good : IsMark next
  pub rules : IsLogMark next
  pub number : chosen.number < next.number
  pub longer : chosen.end ≤ next.end
  pub fit : Fit kept.length (old ++ more)

-- all of the next log was written and synced but the gate over its mark
pub record IsWritten (slot : ℕ) (next : Mark) (entries : List Entry) (full : List ℕ) : Type 0 where
  pub long : next.end ≤ length full
  pub body : bytes_in full (body_range (other_slot slot)) ≡ body_bytes next
  pub spells : Spells entries (bytes_in full (records_range next.end))

-- Records are written behind the log, or nothing; the other gate, which was open, is closed; the body of the other slot is written behind
-- its closed gate; the gate over it is opened; the next log is
-- there, and records are written behind it, or nothing.
pub data IsInPhase (kept : BaseRecord) (slot : ℕ) (chosen next : Mark) (other : Option Mark) (old more : List Entry) (disk : DiskState) : Type 0 where
  waiting : (synced : List ℕ) (reach : ℕ) → HasLog kept synced slot chosen other old → WritesOnly (tail_range chosen.end reach ∷ []) synced disk
      → IsInPhase kept slot chosen next other old more disk
  closing : (synced : List ℕ) (reach : ℕ) → HasLog kept synced slot chosen other old → IsOpen synced (other_slot slot)
      → WritesOnly (gate_range (other_slot slot) ∷ tail_range chosen.end reach ∷ []) synced disk → IsInPhase kept slot chosen next other old more disk
  writing : (closed : List ℕ) (reach : ℕ) → HasLog kept closed slot chosen None old
      → WritesOnly (body_range (other_slot slot) ∷ tail_range chosen.end reach ∷ []) closed disk → IsInPhase kept slot chosen next other old more disk
  opening : (full : List ℕ) (reach : ℕ) → HasLog kept full slot chosen None old → IsWritten slot next (old ++ more) full
      → WritesOnly (gate_range (other_slot slot) ∷ tail_range next.end reach ∷ []) full disk → IsInPhase kept slot chosen next other old more disk
  ended : (synced : List ℕ) (reach : ℕ) → HasLog kept synced (other_slot slot) next (Some chosen) (old ++ more) → WritesOnly (tail_range next.end reach ∷ []) synced disk
      → IsInPhase kept slot chosen next other old more disk

-- What it needs to commit the records behind a log, and what that does.
use Rattle.std.specs.Prelude.{◌≡◌, ℕ, ◌≤◌, List, [], ◌∷◌, ◌++◌, length, Option, Some, Result, OnOk}
use Rattle.host_io.specs.Disk.{DiskState, IsSettled}
use Rattle.host_io.specs.Outside.{Outside, Goes}
use Rattle.host_io.specs.Ranges.{AgreesBut, WritesOnly, bytes_in}
use Rattle.commit_marks.specs.declared.mark.Mark.{Mark}
use Rattle.commit_marks.specs.Marks.{other_slot, slot_range}
use Rattle.aside_disk.specs.declared.error.BaseRecord.{BaseRecord}
use Rattle.aside_disk.specs.Records.{Entry, Spells}
use Rattle.aside_disk.specs.Logical.{HasLog, records_range}
use Rattle.aside_disk.specs.Phases.{IsInPhase, IsNext, tail_range}

-- The bytes at the last sync hold a log with these marks, and since then only bytes behind it were written.
pub record IsBehind (kept : BaseRecord) (slot : ℕ) (chosen : Mark) (other : Option Mark) (old : List Entry) (disk : DiskState) : Type 0 where
  pub synced : List ℕ
  pub reach : ℕ
  pub has : HasLog kept synced slot chosen other old
  pub only : WritesOnly (tail_range chosen.end reach ∷ []) synced disk

-- the records stand up to the end of the next log
pub record AreThere (next : Mark) (entries : List Entry) (seen : List ℕ) : Type 0 where
  pub long : next.end ≤ length seen
  pub spells : Spells entries (bytes_in seen (records_range next.end))

-- The records behind the log are to be committed by this mark.
pub record IsDue (kept : BaseRecord) (slot : ℕ) (chosen next : Mark) (other : Option Mark) (old more : List Entry) (disk : DiskState) : Type 0 where
  pub behind : IsBehind kept slot chosen other old disk
  pub follows : IsNext kept chosen next old more
  pub there : AreThere next (old ++ more) disk.seen

-- At each moment a crash leaves the old log or the next one, and so it does after a failure.
pub record Commits {T E : Type 0} (kept : BaseRecord) (slot : ℕ) (chosen next : Mark) (other : Option Mark) (old more : List Entry) (from to : Outside) (result : Result T E) : Type 0 where
  pub moments : Goes (λ at. (at.said ≡ from.now.said) × IsInPhase kept slot chosen next other old more at.disk) from to
  pub now : IsInPhase kept slot chosen next other old more to.now.disk
  pub ok : OnOk result (IsSettled to.now.disk × HasLog kept to.now.disk.seen (other_slot slot) next (Some chosen) (old ++ more))
  -- no byte was changed but those of the other slot
  pub places : AgreesBut (slot_range (other_slot slot) ∷ []) from.now.disk.seen to.now.disk.seen
  pub said : to.now.said ≡ from.now.said
  pub input : to.input ≡ from.input

-- The phases of a commit: what was written since the last sync, and over which bytes.
use Rattle.std.specs.Prelude.{◌≡◌, ℕ, ◌≤◌, List, [], ◌∷◌, length, All, Option, Some}
use Rattle.host_io.specs.Disk.{DiskState, IsSettled, Range}
use Rattle.host_io.specs.Ranges.{AgreesBut, WritesOnly, bytes_in}
use Rattle.commit_marks.specs.declared.mark.Mark.{Mark}
use Rattle.commit_marks.specs.Marks.{Chooses, IsOpen, body_bytes, body_range, gate_range, other_slot, slot_range}
use Rattle.commit_writes.specs.Blocks.{Block, StandsAt, extents_of}
use Rattle.commit_writes.specs.Footprints.{Footprint, Holds}

-- The file is at rest: nothing is pending, it chooses the mark of the commit in this slot, the other slot has this mark or none, and
-- the commit's blocks stand.
pub record IsAtRest (f : Footprint) (slot : ℕ) (other : Option Mark) (disk : DiskState) : Type 0 where
  pub settled : IsSettled disk
  pub chooses : Chooses disk.seen slot f.mark other
  pub holds : Holds disk.seen f

-- what is written behind the closed gate of a slot: its body, and the blocks
abbrev pub ranges_behind : ℕ → List Block → List Range
ranges_behind slot writes = body_range slot ∷ extents_of writes

-- where a commit writes at all: in the slot of the mark that is not chosen, and at the extents of its blocks
abbrev pub commit_ranges : ℕ → List Block → List Range
commit_ranges slot writes = slot_range (other_slot slot) ∷ extents_of writes

-- the other gate was closed, over bytes at rest
pub record IsClosed (slot : ℕ) (rest closed : List ℕ) : Type 0 where
  pub agrees : AgreesBut (gate_range (other_slot slot) ∷ []) rest closed
  pub gate : ¬ IsOpen closed (other_slot slot)

-- all was written but the gate
pub record IsWritten (slot : ℕ) (writes : List Block) (next : Footprint) (closed full : List ℕ) : Type 0 where
  pub agrees : AgreesBut (ranges_behind (other_slot slot) writes) closed full
  pub body : bytes_in full (body_range (other_slot slot)) ≡ body_bytes next.mark
  pub blocks : All (StandsAt full) writes
  pub long : next.mark.end ≤ length full

-- The phases of a commit, over bytes at rest: an open gate of the other slot is being closed; the blocks and the other slot's body are
-- being written behind the closed gate; the gate over them is being opened; the next commit is at rest, and the old one before it.
pub data IsInPhase (old next : Footprint) (slot : ℕ) (writes : List Block) (rest : List ℕ) (disk : DiskState) : Type 0 where
  closing : IsOpen rest (other_slot slot) → WritesOnly (gate_range (other_slot slot) ∷ []) rest disk → IsInPhase old next slot writes rest disk
  writing : (closed : List ℕ) → IsClosed slot rest closed → WritesOnly (ranges_behind (other_slot slot) writes) closed disk
      → IsInPhase old next slot writes rest disk
  opening : (closed full : List ℕ) → IsClosed slot rest closed → IsWritten slot writes next closed full
      → WritesOnly (gate_range (other_slot slot) ∷ []) full disk → IsInPhase old next slot writes rest disk
  ended : IsAtRest next (other_slot slot) (Some old.mark) disk → Holds disk.seen old → IsInPhase old next slot writes rest disk

-- What a commit does to the disk.
use Rattle.std.specs.Prelude.{◌≡◌, ℕ, List, [], ◌∷◌, Option, None, Some, Result, OnOk}
use Rattle.host_io.specs.Calls.{put_bytes}
use Rattle.host_io.specs.Disk.{DiskState, IsImage, IsSound, settled}
use Rattle.host_io.specs.Outside.{Goes, Moment, Outside}
use Rattle.host_io.specs.Ranges.{ChangesOnly}
use Rattle.commit_marks.specs.declared.mark.Mark.{Mark}
use Rattle.commit_marks.specs.declared.mark.Marks.{Marks}
use Rattle.commit_marks.specs.Marks.{body_bytes, open_byte, other_slot, slot_place}
use Rattle.commit_writes.specs.Blocks.{Block, with_blocks}
use Rattle.commit_writes.specs.Footprints.{Footprint, Holds, MayStand}
use Rattle.commit_writes.specs.Plans.{IsSoundAfter}
use Rattle.commit_writes.specs.Phases.{IsAtRest, commit_ranges}

-- The disk is at rest for the old commit as these marks say, and it is sound to write these blocks for a commit with this mark.
pub record IsReady (old next : Footprint) (marks : Marks) (writes : List Block) (mark : Mark) (disk : DiskState) : Type 0 where
  pub rest : IsAtRest old marks.slot marks.other disk
  pub sound : IsSoundAfter old writes next
  pub mark_is : next.mark ≡ mark

-- the file where the gate of a slot is closed, if the slot had a mark
abbrev pub with_gate_closed : ℕ → Option Mark → List ℕ → List ℕ
with_gate_closed slot None file = file
with_gate_closed slot (Some mark) file = put_bytes file (slot_place slot) (0 ∷ [])

-- The file after a commit with this mark, where the slot that is chosen before it is this one, and the other slot had that mark or none:
-- the other gate is closed, the blocks are put, and then the whole of the other slot.
abbrev pub file_after : ℕ → Option Mark → List Block → Mark → List ℕ → List ℕ
file_after slot other writes mark file =
    put_bytes (with_blocks writes (with_gate_closed (other_slot slot) other file)) (slot_place (other_slot slot)) (open_byte ∷ body_bytes mark)

-- A moment of a commit, over these bytes: nothing is said, only where the commit writes have they changed, and a crash leaves one of the
-- two commits.
pub record IsCarrying (old next : Footprint) (slot : ℕ) (writes : List Block) (from : Outside) (at : Moment) : Type 0 where
  pub silent : at.said ≡ from.now.said
  pub changes : ChangesOnly (commit_ranges slot writes) from.now.disk.seen at.disk.seen
  pub images : (image : List ℕ) → IsImage at.disk image → MayStand old next image

-- The next commit is written in the other slot than this one, which has that mark or none.
pub record Carries {T E : Type 0} (old next : Footprint) (slot : ℕ) (other : Option Mark) (writes : List Block) (from to : Outside) (result : Result T E) : Type 0 where
  pub moments : Goes (IsCarrying old next slot writes from) from to
  -- after the call too a crash leaves one of them, also where it failed
  pub left : (image : List ℕ) → IsImage to.now.disk image → MayStand old next image
  pub sound : IsSound to.now.disk
  -- the next commit is at rest, and the old one is the one before it
  pub rest : OnOk result (IsAtRest next (other_slot slot) (Some old.mark) to.now.disk × Holds to.now.disk.seen old)
  pub file : OnOk result (to.now.disk ≡ settled (file_after slot other writes next.mark from.now.disk.seen))
  -- only where the commit writes were bytes changed, also where it failed
  pub changes : ChangesOnly (commit_ranges slot writes) from.now.disk.seen to.now.disk.seen
  pub said : to.now.said ≡ from.now.said
  pub input : to.input ≡ from.input

-- What the writes behind a closed gate do to the disk.
use Rattle.std.specs.Prelude.{◌≡◌, ℕ, ◌+◌, ◌≤◌, ◌⊎◌, List, length, All, Result, OnOk}
use Rattle.host_io.specs.Disk.{IsSettled}
use Rattle.host_io.specs.Calls.{put_bytes}
use Rattle.host_io.specs.Outside.{Outside, Goes}
use Rattle.host_io.specs.Ranges.{ChangesOnly, WritesWithin, bytes_in}
use Rattle.free_space.specs.Extents.{extent_end}
use Rattle.commit_marks.specs.declared.mark.Mark.{Mark}
use Rattle.commit_marks.specs.Marks.{body_bytes, body_range, slot_place}
use Rattle.commit_writes.specs.Blocks.{Block, StandsAt, extents_of, with_blocks}
use Rattle.commit_writes.specs.Phases.{ranges_behind}

-- the block stands in the file, which has its whole extent
pub record IsWhole (file : List ℕ) (b : Block) : Type 0 where
  pub stands : StandsAt file b
  pub long : extent_end b.span ≤ length file

-- Blocks are written. Until a sync a crash may tear their extents, at each moment of the call; nothing else is written.
pub record PutsBlocks {T E : Type 0} (blocks : List Block) (old new : Outside) (result : Result T E) : Type 0 where
  pub file : OnOk result (new.now.disk.seen ≡ with_blocks blocks old.now.disk.seen)
  pub ok : OnOk result (All (IsWhole new.now.disk.seen) blocks)
  pub within : WritesWithin (extents_of blocks) old.now.disk new.now.disk
  pub moments : Goes (λ at. (at.said ≡ old.now.said) × WritesWithin (extents_of blocks) old.now.disk at.disk) old new
  pub said : new.now.said ≡ old.now.said
  pub input : new.input ≡ old.input

-- the blocks stand, and the body of a slot is that of the mark
pub record IsFull (slot : ℕ) (blocks : List Block) (mark : Mark) (file : List ℕ) : Type 0 where
  pub blocks_are : All (IsWhole file) blocks
  pub body : bytes_in file (body_range slot) ≡ body_bytes mark

-- Blocks and the body of a slot are written and synced: at each moment a crash may tear them, or they are there for good.
pub record FillsBehind {T E : Type 0} (slot : ℕ) (blocks : List Block) (mark : Mark) (old new : Outside) (result : Result T E) : Type 0 where
  pub ok : OnOk result (IsSettled new.now.disk × IsFull slot blocks mark new.now.disk.seen)
  pub file : OnOk result (new.now.disk.seen ≡ put_bytes (with_blocks blocks old.now.disk.seen) (slot_place slot + 1) (body_bytes mark))
  pub changes : ChangesOnly (ranges_behind slot blocks) old.now.disk.seen new.now.disk.seen
  pub moments : Goes (λ at. (at.said ≡ old.now.said)
      × (WritesWithin (ranges_behind slot blocks) old.now.disk at.disk
      ⊎ (IsSettled at.disk × IsFull slot blocks mark at.disk.seen × ChangesOnly (ranges_behind slot blocks) old.now.disk.seen at.disk.seen))) old new
  pub said : new.now.said ≡ old.now.said
  pub input : new.input ≡ old.input
